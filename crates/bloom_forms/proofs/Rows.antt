-- What rules and outputs give over steps.
pub mod Linear
pub mod Through
pub mod Closed
pub mod Outputs
pub mod RunsLemmas
pub mod Fed
