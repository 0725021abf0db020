-- What is proved about every answered orientation, for the crates above; laws that several proofs use.
pub mod Asked
mod Arms
mod Nested
mod Terms
pub mod Before
pub mod Range
pub mod Reach
pub mod Finite
pub mod Overflow
pub mod Given
pub mod Answers
