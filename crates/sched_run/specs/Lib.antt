pub mod Made
pub mod Naming
pub mod Making
pub mod Code
