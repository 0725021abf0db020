-- The names that a query may read.
pub mod Names
