-- Powers of ten, and whole numbers scaled by them.
pub mod Exact
pub mod Leading
