-- The refusals and their numbers.
pub mod Numbers
pub mod Before
