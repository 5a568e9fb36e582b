-- The blocks of a map as numbers.
pub mod Listing
