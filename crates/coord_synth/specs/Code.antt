-- What only the clauses of private functions speak of.
pub mod Chosen
pub mod Regions
pub mod Shapes
pub mod Start
pub mod Written
