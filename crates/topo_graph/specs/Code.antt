pub mod Feeders
pub mod Lines
pub mod Paths
pub mod Ports
pub mod Chosen
