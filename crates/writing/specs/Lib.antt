-- What the code of the second pass is given and leaves.
pub mod Pens
