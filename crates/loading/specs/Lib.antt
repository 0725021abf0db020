-- Load: what it answers, and the memory that it leaves.
pub mod Load
