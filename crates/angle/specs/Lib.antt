-- Document 01, "Evaluation": wrap, and sine and cosine of degrees.
pub mod Wrap
pub mod Series
pub mod Sine
pub mod Range
pub mod Finite
