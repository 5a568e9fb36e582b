-- Laws that the proofs of the functions cite.
pub mod Digits
pub mod Shapes
pub mod Formed
pub mod InRange
pub mod FromLeft
