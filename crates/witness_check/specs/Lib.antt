pub mod Difference
pub mod Code
