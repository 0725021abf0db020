-- A text taken in by parts: the open text of a memory, and the four calls.
pub mod Opened
pub mod Calls
-- as the code has it
pub mod State
