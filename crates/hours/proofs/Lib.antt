-- Laws of opening hours.
pub mod Walk
pub mod Answering
pub mod Laws
pub mod Range
