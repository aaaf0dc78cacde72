mod Below
pub mod Walks
pub mod Faultless
pub mod OwnNames
pub mod Checking
pub mod BucketsLemmas
pub mod Allowing
pub mod ModuleCounts
pub mod NewTopology
pub mod Answering
pub mod ShardLaw
