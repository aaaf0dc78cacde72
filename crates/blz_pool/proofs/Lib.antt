pub mod Positions
pub mod Records
