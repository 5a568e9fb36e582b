-- Laws of text put into a buffer, of digits, and of numbers read from bytes.
pub mod Putting
pub mod Digits
pub mod Tables
pub mod Files
pub mod Playing
