-- What tourcheck prints of the bytes that it reads.
pub mod Diagnosis
