-- An open text as the code has it, and its parts taken in.
pub mod Marked
pub mod Taking
