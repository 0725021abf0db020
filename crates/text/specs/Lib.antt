-- Document 01, "Text rules": lines, sections and the whole text, with document 02's lengths of lines. What a data line says is in statement.
pub mod Lines
pub mod Delimiters
pub mod Lengths
pub mod Line
pub mod Text
pub mod Columns
