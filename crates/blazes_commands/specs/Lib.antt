pub mod Checks
pub mod Soak
pub mod Commands
pub mod Answer
pub mod Code
pub mod Finds
pub mod Labels
pub mod Runs
