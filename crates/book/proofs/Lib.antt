-- The proof of demand 3, from its leaves: the book's lists are those of the trees, its bits those of the storage.
pub mod Apart
pub mod Local
pub mod Delivered
pub mod Freed
pub mod Maps
pub mod Moved
pub mod Lists
pub mod Bits
pub mod Matches
pub mod Served
pub mod Reported
pub mod Entered
pub mod Demand3
pub mod Shuts
pub mod Runs
pub mod Alike
