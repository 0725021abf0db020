-- Laws of an open text in its pool's memory.
-- the answers, question by question
pub mod Answers
-- read from the memory
pub mod Bearing
pub mod Finding
pub mod Lasting
-- written into it
pub mod Stowing
