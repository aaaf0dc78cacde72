-- A worked topology that meets the premises of the laws: word count, where count waits for the seals of batch.
pub mod Modules
pub mod WordCount
pub mod Schedules
