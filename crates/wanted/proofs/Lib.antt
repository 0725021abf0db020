-- Laws about a body's variables, for the proofs of the crates above.
pub mod Codes
pub mod Spelling
pub mod Fronts
pub mod Found
pub mod Polynomials
