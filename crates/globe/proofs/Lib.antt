-- Laws behind the answers.
pub mod Ordered
pub mod Axes
