-- Worked topologies.
pub mod WordCount
pub mod Gossip
pub mod WorkedFeeds
