-- The laws that the proofs of the functions cite.
pub mod Engines
pub mod Pasted
pub mod Delivering
pub mod Others
pub mod Carrying
pub mod Turning
