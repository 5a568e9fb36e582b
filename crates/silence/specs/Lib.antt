-- Stops without a recording, and stops that stand twice.
pub mod Silence
