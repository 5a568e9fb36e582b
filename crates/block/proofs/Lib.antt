-- The laws of set-up numbers, blocks and the block map that the crates above cite.
pub mod Size
pub mod Map
pub mod Change
pub mod Each
pub mod Tiling
pub mod Runs
pub mod Within
pub mod Local
pub mod Delivered
pub mod Extension
pub mod Laws
