-- Laws of the drive.
pub mod Integers
pub mod Moves
pub mod Halves
pub mod Products
pub mod Positions
pub mod Signed
pub mod Answers
pub mod Once
pub mod Marked
pub mod Drives
