-- What the pass leaves, for the proofs of the crates above.
pub mod Removal
