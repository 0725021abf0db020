-- Document 01, "Evaluation" and the built-in part of "Elements wanted".
pub mod Epochs
pub mod Elements
pub mod Terms
pub mod Matrix
pub mod Evaluation
pub mod Before
pub mod Codes
pub mod Table
pub mod Builtin
pub mod Range
pub mod Finite
pub mod Overflow
