-- Streams into ports, and the keys that they carry.
pub mod IntoPorts
pub mod CarriedKeys
pub mod InstancePorts
