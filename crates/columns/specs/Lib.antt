-- Storage kept by bit columns.
pub mod Columns
pub mod Packing
