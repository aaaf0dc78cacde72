pub mod RecordSet
pub mod Answers
pub mod References
pub mod Growth
pub mod Missing
pub mod Pairs
pub mod Code
