-- What only the clauses of private functions speak of.
pub mod ComponentParts
pub mod SourceParts
pub mod StreamParts
pub mod TopologyParts
