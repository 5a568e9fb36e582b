-- The machine: document 01, "Fields and references", "Steps", "Operations", the refusals and their order.
-- In reading order:
pub mod Answer
pub mod State
pub mod Sound
pub mod Storage
pub mod Locate
pub mod Test
pub mod Effects
pub mod Operations
pub mod Step
pub mod Extend
pub mod Converting
pub mod Bench
pub mod Examples
