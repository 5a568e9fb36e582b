-- What the test programs share, in numbers.
pub mod Folding
