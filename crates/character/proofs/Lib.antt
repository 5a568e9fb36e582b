-- The laws of characters that the crates above cite.
pub mod Digits
pub mod RoundTrip
pub mod Table
pub mod LineEnds
pub mod Entries
