-- Laws of the closing of an open text.
pub mod Closing
