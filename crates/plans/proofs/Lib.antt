-- The laws that the proofs of the functions cite, and that a plan with its effects is the machine's.
pub mod Answers
pub mod Going
pub mod Judged
pub mod Meets
pub mod Ready
pub mod Rows
pub mod Shapes
pub mod Stepping
pub mod Stores
pub mod Testing
