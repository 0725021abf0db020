-- A pool's state, its memory, and when a memory is damaged.
pub mod State
pub mod Limits
pub mod Memory
pub mod Damage
pub mod Fair
pub mod Totals
