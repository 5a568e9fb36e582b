-- Laws that the proofs of the functions cite.
pub mod Answers
pub mod Walking
pub mod Steps
pub mod Checked
pub mod Onward
pub mod Taking
pub mod Walked
pub mod Texting
pub mod Using
pub mod Faults
pub mod Judged
pub mod Keys
pub mod Naming
pub mod Telling
pub mod Finding
