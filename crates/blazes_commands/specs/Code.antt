-- What functions give, beside the scripts that they run.
pub mod Ran
pub mod Made
pub mod Soaked
