-- Laws about the calls on a pool, for the proofs of the crates above.
pub mod Inking
pub mod Labels
-- the tests at the head of a call
pub mod Tested
-- make empty, clear, fetch, fetch a string, totals
pub mod Emptying
pub mod Fetching
pub mod Tallying
-- remove
pub mod Parted
pub mod Removing
