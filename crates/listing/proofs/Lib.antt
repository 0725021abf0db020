-- Laws of the listing.
mod Longest
mod Listed
mod Reading
