-- Laws of the listing.
pub mod Octal
pub mod Pieces
pub mod Texts
pub mod Owners
pub mod Trees
pub mod Sound
