-- What is written of words and numbers.
pub mod Digits
pub mod Figures
pub mod Pen
pub mod Quoted
