-- Re-recorded stops.
pub mod Recordings
pub mod Walking
