-- Laws of numbers as bytes.
pub mod Reading
pub mod RoundTrip
pub mod Writing
