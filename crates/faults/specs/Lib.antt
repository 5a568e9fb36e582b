pub mod Checking
pub mod Places
pub mod Names
