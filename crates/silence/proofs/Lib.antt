-- Laws of silent and repeated stops.
pub mod Looking
pub mod Picking
pub mod Putting
pub mod Calls
pub mod Laws
pub mod Twice
