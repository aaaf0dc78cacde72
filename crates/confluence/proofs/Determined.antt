-- Outputs whose contents are the one-step answer to all that arrives.
pub mod Parts
pub mod Notes
pub mod Rows
pub mod DeterminedOutputs
