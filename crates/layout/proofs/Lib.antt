-- Laws about a pool's memory, for the proofs of the crates above.
pub mod Areas
pub mod Passing
pub mod Small
pub mod Bytes
pub mod Sound
pub mod Asking
pub mod Columns
pub mod Legal
pub mod Spelling
pub mod Codec
pub mod Holds
pub mod Changes
