-- A text in parts.
pub mod Kept
pub mod Parts
pub mod Reading
-- as the code keeps it
pub mod Stored
pub mod Slid
