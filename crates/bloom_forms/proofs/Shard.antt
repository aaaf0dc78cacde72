-- The shard law.
pub mod CopiedSteps
pub mod ShardLaw
