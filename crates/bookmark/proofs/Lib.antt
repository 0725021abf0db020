-- The thirty words, and their reading.
pub mod Numbered
pub mod Lined
pub mod Spelled
pub mod Within
pub mod ReadBack
pub mod Bookmarked
