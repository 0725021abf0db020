-- Document 01, "The listing".
pub mod Listing
pub mod Input
pub mod Lists
