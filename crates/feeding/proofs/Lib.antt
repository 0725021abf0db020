-- Laws of a text in parts, and the theorem that it may be cut anywhere.
-- the line that goes on
pub mod Squeezing
pub mod Keeping
-- any text in parts
pub mod Going
pub mod Joining
pub mod Counting
pub mod Whole
-- a text that is read
pub mod Completing
pub mod Cutting
-- bytes and lines taken at once
pub mod Steps
pub mod Runs
pub mod WholeLines
pub mod LinesAt
-- the code
pub mod Storing
pub mod Longer
