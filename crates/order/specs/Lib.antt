-- Names in byte order, each once, and their places in a pool's memory.
pub mod Order
pub mod Places
