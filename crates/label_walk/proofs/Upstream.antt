-- Labels look upstream only.
pub mod ListsAlike
pub mod Alike
pub mod UpstreamRegions
pub mod UpstreamSeals
pub mod UpstreamLabels
pub mod UpstreamLaw
