-- What lent slices show of an engine, what code that reads and stores there relies on, and answers as it gives them.
pub mod Locating
pub mod Packing
pub mod Reading
pub mod Storing
pub mod Through
