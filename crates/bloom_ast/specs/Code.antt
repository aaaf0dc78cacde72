-- What private functions give.
pub mod Fitting
pub mod Checking
