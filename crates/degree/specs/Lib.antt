-- The degree of a system's angles, as a pool's texts announce it.
pub mod Degree
