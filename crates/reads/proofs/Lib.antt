-- Laws of the names of a list: by their places, and told.
pub mod Places
pub mod Told
