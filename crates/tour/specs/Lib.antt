-- What tourrun prints of the bytes that it reads, and how text is put into a buffer.
pub mod Tour
pub mod Put
pub mod Width
