-- Worked cases, computed.
pub mod Programs
pub mod Tally
pub mod Batches
pub mod Orders
pub mod Words
pub mod Wiring
