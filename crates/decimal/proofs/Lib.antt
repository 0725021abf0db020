-- What is true of every value that is read.
pub mod Exact
pub mod Bounded
pub mod Nearest
pub mod Refused
-- Laws on the parts of a value, for the proofs of this crate.
mod Alike
mod Left
mod Places
mod Exponents
mod Valued
mod Scaled
mod Pointed
