-- Whole numbers and powers of ten as doubles.
pub mod Exact
-- How leading digits round, for the proofs of this crate.
mod Compared
mod Sticky
mod Packed
mod Leading
