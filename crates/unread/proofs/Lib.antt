-- A query's answer is that of the statements with its names, and each of them counts.
mod Chosen
pub mod Calls
pub mod After
mod Only
mod Spelled
pub mod Matters
pub mod Unread
pub mod Driven
pub mod Caption
