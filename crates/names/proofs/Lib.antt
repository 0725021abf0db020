-- Laws about names in words, for the proofs of the crates above.
pub mod Bytes
pub mod Tapering
pub mod Lanes
pub mod Filling
pub mod Names
