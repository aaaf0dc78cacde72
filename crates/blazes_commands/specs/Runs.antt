-- What the calls of this folder give.
pub mod Checks
pub mod Bench
pub mod Contents
pub mod Runs
pub mod Replies
pub mod Code
