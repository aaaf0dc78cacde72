pub mod Front
pub mod Keys
pub mod GivenValues
pub mod GivenEntries
pub mod Steps
pub mod ComponentParts
pub mod SourceParts
pub mod StreamParts
mod Filled
mod ReadBackValues
mod ReadBackEntries
mod ReadBackComponents
mod ReadBack
mod WrittenDepth
mod Inserted
mod AllowedTwo
mod Texts
