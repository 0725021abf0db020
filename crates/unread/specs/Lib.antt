-- A text that a query does not read.
pub mod Unread
pub mod After
pub mod All
pub mod Caption
