-- Laws about words, for the proofs of the crates above.
pub mod Chains
pub mod Each
pub mod Over
pub mod Placed
pub mod Halves
pub mod Same
pub mod Steps
