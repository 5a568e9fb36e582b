-- Steps one after the other, with the report of the last.
pub mod Walking
pub mod Starting
pub mod Calls
