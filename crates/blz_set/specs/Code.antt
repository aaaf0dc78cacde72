-- What private functions give.
pub mod ValueRef
pub mod Entry
pub mod Index
pub mod Groups
pub mod Blocks
