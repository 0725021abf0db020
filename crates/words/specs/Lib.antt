-- Lists of memory words.
pub mod Over
pub mod Placed
pub mod Halves
