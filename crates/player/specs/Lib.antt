-- What the library's calls answer and leave.
pub mod Calls
pub mod Counted
pub mod Defined
pub mod Extending
pub mod Hosting
pub mod Hours
pub mod Keeping
pub mod Playing
pub mod Recordings
pub mod Silence
pub mod Typed
