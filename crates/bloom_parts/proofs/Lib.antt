pub mod Putting
pub mod Turning
pub mod PartTurns
pub mod Settling
pub mod Selecting
pub mod BodiesLemmas
