-- What private functions give.
pub mod Paired
pub mod NumberedParts
