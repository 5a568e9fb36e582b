-- Laws of the library's calls.
pub mod Moving
pub mod Leaving
pub mod Longer
pub mod Hosts
pub mod Blocks
pub mod Corollaries
pub mod Alone
pub mod Telling
