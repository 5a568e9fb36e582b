-- A state as bytes.
pub mod Records
pub mod Layout
pub mod Ranged
pub mod Lengths
