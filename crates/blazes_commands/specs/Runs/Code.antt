-- What private functions give.
pub mod Ran
