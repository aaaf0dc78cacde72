-- What private functions give.
pub mod Aside
pub mod Trials
