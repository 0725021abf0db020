-- What became of a number.
pub mod Before
