-- What is promised.
pub mod Ascii
pub mod Marked
pub mod Calls
pub mod Histories
pub mod Demands
pub mod Parts
pub mod Order
pub mod Before
pub mod Renumbered
pub mod Sentence
pub mod Demand3
pub mod Useless
