-- What only the clauses of private functions speak of.
pub mod Kept
pub mod Notes
pub mod Tried
