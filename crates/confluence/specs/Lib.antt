pub mod Complete
pub mod Honest
pub mod Sound
pub mod LabelMeaning
pub mod Partitions
pub mod Laws
