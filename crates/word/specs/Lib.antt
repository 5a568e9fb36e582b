-- What a word of b bits means: document 01, "Words and set-up", "Fields and references" and the arithmetic of "Operations"; and
-- answers in numbers.
pub mod Word
pub mod Field
pub mod Told
