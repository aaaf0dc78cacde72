-- What private functions give.
pub mod Tallies
pub mod Hearing
pub mod Counting
pub mod Placing
