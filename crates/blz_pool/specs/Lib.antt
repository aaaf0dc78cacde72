pub mod Pool
pub mod Entries
