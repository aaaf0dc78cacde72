-- Records that streams send: where they are put out, and from which records of sources they come.
pub mod Sending
pub mod PutOut
pub mod RowsLaw
pub mod CopiedLaw
pub mod ByRank
pub mod TracedLaw
pub mod ArrivingLaw
