-- The two calls that name their source.
pub mod Orientation
pub mod Radii
