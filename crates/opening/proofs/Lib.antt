-- Laws of an open text in a pool, and the theorem that it closes as it loads.
pub mod Squeezing
pub mod Lines
pub mod Lists
pub mod Extending
pub mod Placing
pub mod Fitting
pub mod Growing
pub mod Reading
pub mod Ending
pub mod Closing
pub mod Fair
pub mod Storable
pub mod Undamaged
