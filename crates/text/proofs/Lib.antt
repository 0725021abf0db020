-- Laws that several proofs use, and the theorems about the definitions.
-- the code
pub mod Words
pub mod Counting
pub mod LineEnds
pub mod Answers
pub mod Bounds
pub mod Tallies
-- the definitions
pub mod Passing
pub mod FirstFault
pub mod Columns
pub mod Legal
pub mod Totals
