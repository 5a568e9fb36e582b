-- What characters in a word mean: document 01, operations 24 to 31; and the three-character list.
pub mod Character
pub mod Converted
pub mod Thousand
pub mod Triples
