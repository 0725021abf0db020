-- Where an open text stands between two parts.
pub mod Limits
pub mod Numbers
pub mod Words
-- as the code has it
pub mod Marked
-- a reader that the statements bear out
pub mod Borne
