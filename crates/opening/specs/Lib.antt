-- An open text in a pool.
pub mod Storing
pub mod Closing
