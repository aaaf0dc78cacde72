-- Regions, their numbers and their order.
pub mod Spreading
pub mod Classes
pub mod Numbering
pub mod RegionOrder
pub mod Lower
pub mod OrderAlone
pub mod RegionSets
