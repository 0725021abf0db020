-- The globe drive: positions on a ring, moves round it, the two calls, their answers as numbers, and what is claimed of them.
pub mod Ring
pub mod Move
pub mod Calls
pub mod Replies
pub mod Claims
pub mod Marked
