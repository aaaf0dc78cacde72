pub mod Draws
pub mod Sizes
pub mod Windows
pub mod Code
