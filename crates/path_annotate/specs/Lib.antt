pub mod Outputs
pub mod Code
