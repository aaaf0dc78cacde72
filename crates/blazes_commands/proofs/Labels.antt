-- Lemmas for the calls of this folder.
pub mod RepliesLemmas
pub mod ShardLemmas
pub mod BuiltInLemmas
