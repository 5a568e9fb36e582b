-- Laws of records among bytes, and that a state comes back from its bytes.
pub mod Placing
pub mod Records
pub mod Widths
pub mod Parts
pub mod Told
pub mod Back
