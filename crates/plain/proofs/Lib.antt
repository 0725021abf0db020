-- Laws about the words of the definitions, for the proofs of the crates above.
pub mod Ranges
pub mod Tests
pub mod Each
pub mod Runs
pub mod Places
pub mod Rounding
pub mod Scaling
pub mod Values
pub mod Products
pub mod Sizes
pub mod Bounded
pub mod Bits
pub mod Fields
pub mod Nearest
-- For the law of the nearest value.
mod Closest
mod Distances
mod Steps
mod LastDigit
