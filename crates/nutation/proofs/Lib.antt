-- Laws behind the answer by nutation.
pub mod Looked
pub mod Coefficients
pub mod Settled
