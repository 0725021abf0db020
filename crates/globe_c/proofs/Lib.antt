-- Laws about the C face.
pub mod Unique
pub mod Narrow
