-- Laws that the proofs of the functions cite.
pub mod Valuing
pub mod Putting
pub mod Grouping
pub mod Written
pub mod Answers
