-- What tourlist prints of the bytes that it reads.
pub mod Inventory
pub mod Puts
