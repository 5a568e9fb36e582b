-- Ticket 8: fields defined before they are used.
pub mod Kinds
pub mod Paths
pub mod Search
pub mod Answer
pub mod Alone
