-- Laws about bytes in words, for the proofs of the crates above.
pub mod Eight
pub mod Bytes
pub mod Across
pub mod Inked
pub mod Areas
pub mod Plain
pub mod Tested
