-- The ports law.
pub mod Silence
pub mod Rules
pub mod Outputs
pub mod PortsLaw
