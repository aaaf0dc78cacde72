-- Contents: what instances have heard of others, and what they have emitted.
pub mod Heard
pub mod Instances
pub mod Arriving
pub mod Pairing
pub mod IntoPorts
pub mod NoBody
pub mod OrderReplicas
