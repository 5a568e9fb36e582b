-- Laws of what tourread writes and prints.
pub mod Filing
