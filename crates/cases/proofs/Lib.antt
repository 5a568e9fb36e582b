-- The lemmas, where this crate's proofs find them.
mod Folded
