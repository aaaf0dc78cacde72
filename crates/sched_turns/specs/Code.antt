-- What private functions give.
pub mod Levels
