-- Executions, step by step.
pub mod Results
pub mod Appending
pub mod Histories
pub mod Lengthening
pub mod Sent
pub mod Completing
pub mod Standing
