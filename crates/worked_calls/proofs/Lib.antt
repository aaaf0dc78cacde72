pub mod Ports
pub mod NetRuns
