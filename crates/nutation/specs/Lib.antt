-- A body's nutation: what was found of its variables, what the counts come to, and the answer step by step.
pub mod Found
pub mod Terms
pub mod Answer
