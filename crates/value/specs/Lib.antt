-- The classes of bytes, what may be wrong, and one value: documents 01 and 02, "Text rules", "Admit strings in single quotes".
pub mod Classes
pub mod Masks
pub mod Faults
pub mod Strings
pub mod Value
