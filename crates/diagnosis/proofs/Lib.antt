-- Laws of what tourcheck prints.
pub mod Words
