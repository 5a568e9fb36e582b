-- What references rely on, by the tests that show it.
pub mod Readable
