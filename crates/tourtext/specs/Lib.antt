-- tourread: what it writes and prints.
pub mod Translation
