-- "Elements wanted": names, what a pool has for a body, and the steps from what was found to an answer.
pub mod Names
pub mod Elements
pub mod Steps
