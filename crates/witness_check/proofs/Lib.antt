pub mod InOne
pub mod Walks
pub mod Places
pub mod DifferenceLemmas
pub mod Readings
pub mod WorkedDifference
