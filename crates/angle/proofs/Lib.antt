-- What is proved about wrap, sine and cosine, for the crates above.
pub mod Range
pub mod Itself
pub mod Sizes
-- For the code of the remainder.
mod Halving
mod Sides
