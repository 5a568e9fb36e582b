-- The laws that the proofs of the functions cite, and examples that the checker computes.
pub mod Extending
pub mod Examples
