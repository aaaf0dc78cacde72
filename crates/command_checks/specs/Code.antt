-- What private functions give.
pub mod Topologies
