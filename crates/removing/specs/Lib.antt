-- The gaps of a text in a memory, and the memory with them closed.
pub mod Gaps
