-- The laws of words and fields that the crates above cite.
pub mod Tests
pub mod Pred
pub mod Field
pub mod Modulo
pub mod Bitwise
pub mod Places
pub mod Nearest
pub mod Width
pub mod Chunks
pub mod Filling
