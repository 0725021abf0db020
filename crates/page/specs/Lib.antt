-- A page, what is written on it, and what its pen needs.
pub mod Writing
pub mod Pens
