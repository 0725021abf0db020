-- What a variable is, where it begins in a memory, and how its numbers and its strings are found.
pub mod Variables
pub mod Walk
pub mod Found
pub mod Spelled
pub mod Places
