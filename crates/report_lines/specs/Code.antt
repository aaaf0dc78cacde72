-- What only the clauses of private functions speak of.
pub mod Uses
pub mod Components
