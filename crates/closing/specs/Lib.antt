-- The end of an open text as the code has it.
pub mod Ended
