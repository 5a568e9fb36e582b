-- Opening hours.
pub mod Hours
