-- The first fault of a module, and the order of its heads.
pub mod Levels
pub mod Firsts
pub mod Ordering
