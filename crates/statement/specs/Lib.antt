-- A statement: its name and operator, its values as far as a line has them, and all statements that some lines add.
pub mod Head
pub mod Values
pub mod Statements
