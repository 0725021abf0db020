-- Laws about degrees, for the proofs of the crates above.
pub mod Degrees
