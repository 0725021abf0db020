-- Laws about an open text behind what a pool holds, for the proofs of the crates above.
pub mod Cutting
pub mod Merged
pub mod Laid
