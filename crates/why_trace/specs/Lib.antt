pub mod Passes
pub mod Trim
pub mod Code
