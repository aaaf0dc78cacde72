-- What private functions give.
pub mod Kinds
pub mod Seen
pub mod Looked
