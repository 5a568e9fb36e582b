pub mod Values
pub mod Putting
pub mod Looking
