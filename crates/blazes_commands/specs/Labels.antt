-- What the calls of this folder give.
pub mod Replies
pub mod Shards
pub mod ShardText
pub mod Answers
pub mod BuiltIn
