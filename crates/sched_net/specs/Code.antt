-- What private functions give.
pub mod Stepping
pub mod Parts
pub mod Hearing
pub mod First
pub mod Remaining
pub mod Records
pub mod Flags
pub mod GoingBack
