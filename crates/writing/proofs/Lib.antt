-- Laws about the second pass, for the proofs of the crates above.
pub mod SameKind
pub mod Storing
pub mod Giving
pub mod Heads
pub mod Lines
pub mod Passes
