-- The laws of bit columns.
pub mod Turning
pub mod Back
pub mod Bits
pub mod Loops
pub mod Places
pub mod Calls
pub mod Writing
pub mod Packing
pub mod Parts
