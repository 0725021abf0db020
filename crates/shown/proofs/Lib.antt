-- Laws of what is shown.
mod Writing
mod Unpacked
mod Held
pub mod Together
mod Strings
mod Stated
mod Told
mod Showing
