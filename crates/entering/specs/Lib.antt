-- A complete line of an open text, in the memory of its pool.
pub mod Entries
-- as the code does it
pub mod Counts
pub mod Pens
pub mod Lines
