-- Worked cases.
pub mod Runs
pub mod Latest
pub mod TwiceNumbered
pub mod Premises
