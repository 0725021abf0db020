-- Laws of names in order.
mod Before
pub mod Packed
mod Spots
pub mod Named
pub mod Rising
mod Raising
