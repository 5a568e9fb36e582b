-- What code on references and stores rests on.
pub mod Answers
pub mod Follows
pub mod Links
pub mod Numbers
pub mod Operands
pub mod Readable
pub mod Storing
pub mod Through
pub mod Unpacking
pub mod Reported
