-- The answers as C sees them.
pub mod Faces
pub mod Narrow
pub mod Motor
