-- What private functions give.
pub mod Held
pub mod Evaluates
