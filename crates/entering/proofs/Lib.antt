-- Laws about a complete line of an open text in the memory of its pool.
pub mod Further
pub mod Going
pub mod Written
pub mod Laying
pub mod Counting
pub mod Lines
pub mod Completing
pub mod Numbers
pub mod Adding
pub mod Looking
