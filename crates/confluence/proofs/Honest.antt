-- What instances see of one partition, and that seals tell the truth.
pub mod SmallSets
pub mod HeardWhole
pub mod FromFeeds
pub mod Partitions
pub mod PartitionRecords
pub mod Runs
pub mod LivesHeard
pub mod Rows
pub mod Sources
pub mod HonestLaw
pub mod PartitionLaw
