-- What private functions give.
pub mod Settled
pub mod Passing
