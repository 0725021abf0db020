-- A value's bytes, and the double that they are.
pub mod Form
pub mod Class
pub mod Values
pub mod Before
pub mod Parts
