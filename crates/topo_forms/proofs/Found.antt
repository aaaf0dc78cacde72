-- What is found of a view is what its definitions say.
pub mod Unusable
pub mod OneLevel
pub mod Once
pub mod FoundAt
pub mod IntoPorts
