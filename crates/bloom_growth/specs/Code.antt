-- What private functions give.
pub mod Aggregates
pub mod Joins
pub mod NotIns
pub mod Tallies
pub mod Sides
