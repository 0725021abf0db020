-- Laws about a load, for the proofs of the crates above.
pub mod Kept
pub mod Laid
pub mod Rooms
pub mod Adding
pub mod Loading
pub mod Admitted
pub mod Loaded
