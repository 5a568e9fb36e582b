-- What the contracts of the code cite beside the definitions of `block`.
pub mod Marks
pub mod Upward
pub mod Lowest
pub mod Tag
