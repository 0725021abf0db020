-- What the programs print of a double.
pub mod Printed
