-- Laws about variables, for the proofs of the crates above.
pub mod Counts
pub mod Held
pub mod Names
pub mod Since
pub mod Passing
pub mod Ahead
pub mod Gathering
pub mod Seeking
pub mod Strings
pub mod Presence
pub mod Finding
pub mod Spelling
