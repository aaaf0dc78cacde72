-- Which records stand in timesteps, and which partitions are whole.
pub mod Arriving
pub mod Whole
pub mod Entries
pub mod UnderSeal
pub mod AtOnce
pub mod Partitions
pub mod Touching
pub mod Held
pub mod Widths
pub mod OfLives
