-- Laws about pages, for the proofs of the crates above.
pub mod Copying
pub mod Alike
pub mod Pages
