-- Laws of what is written.
pub mod Between
mod Decimals
mod Doubled
pub mod Lengths
