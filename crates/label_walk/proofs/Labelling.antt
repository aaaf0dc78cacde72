-- There is one labelling, and the walk finds it.
pub mod Computed
pub mod OneLabelling
pub mod RegionByRegion
pub mod SourceLemmas
pub mod RegionNumbers
pub mod RemadeLemmas
