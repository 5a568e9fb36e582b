-- What set-up numbers, blocks and the block map mean: document 01, "Words and set-up" and "Blocks"; document 02, ticket 11.
pub mod Blocks
pub mod SetUp
pub mod Map
pub mod Extension
