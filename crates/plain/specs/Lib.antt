-- Words of the definitions.
pub mod Doubles
pub mod Bytes
pub mod Ascii
pub mod Runs
pub mod Sizes
pub mod Nearest
pub mod Lists
