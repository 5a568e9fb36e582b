-- What a step plans at its place.
pub mod Answers
pub mod Steps
