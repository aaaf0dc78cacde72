-- What a label says of the paths behind it.
pub mod Cells
pub mod Settling
pub mod Paths
pub mod SealLaw
pub mod GoodPathsLaw
pub mod ProtectedLaw
pub mod CyclicLaw
