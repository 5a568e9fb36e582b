-- What carrying an action out leaves in each part of the engine, and what it reports.
pub mod Carried
pub mod Feasible
pub mod Reported
pub mod Then
