-- Laws of a map that is passed from block to block.
pub mod Passing
pub mod Lists
