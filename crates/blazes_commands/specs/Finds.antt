-- What the calls of this folder give.
pub mod Checks
pub mod WitnessText
pub mod WhyText
pub mod Finds
pub mod Code
