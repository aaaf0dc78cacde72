-- Lists and their elements.
pub mod Distinct
pub mod Positions
