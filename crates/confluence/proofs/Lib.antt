pub mod Labels
pub mod Honest
pub mod Contents
pub mod Determined
pub mod Regions
pub mod Worked
