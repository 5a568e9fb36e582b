-- The laws that the proofs of the functions cite.
pub mod Answers
pub mod ByCode
pub mod Doing
pub mod Made
pub mod Stacks
