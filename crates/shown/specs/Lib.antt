-- What is shown of a pool.
pub mod Shown
pub mod Shows
