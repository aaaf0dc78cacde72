-- Worked topologies with faults.
pub mod Refusals
