-- Laws that several proofs use, and the theorems about the definitions.
-- the code
pub mod Masks
pub mod Standing
pub mod Scanning
-- the definitions
pub mod Found
pub mod Starts
pub mod Readings
pub mod Numbered
pub mod Quotes
pub mod Written
