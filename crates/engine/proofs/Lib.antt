-- The laws of walks, and of the turns of a walk's loop; and what follows of the calls.
pub mod Able
pub mod Corollaries
pub mod First
pub mod Now
pub mod Relations
pub mod Turns
