-- What the private functions give.
pub mod Weight
pub mod Pairs
pub mod Earliest
pub mod Apart
