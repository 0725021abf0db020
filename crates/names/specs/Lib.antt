-- A name in four words.
pub mod Names
