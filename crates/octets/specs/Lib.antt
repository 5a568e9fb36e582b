-- Numbers as bytes.
pub mod Octets
