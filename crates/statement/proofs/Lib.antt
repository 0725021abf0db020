-- Laws that several proofs use, and the theorems about the definitions.
-- the code
pub mod Found
pub mod Items
pub mod Lists
pub mod Bounds
-- the definitions
pub mod Enough
pub mod Names
pub mod OneKind
pub mod Events
pub mod Pointed
