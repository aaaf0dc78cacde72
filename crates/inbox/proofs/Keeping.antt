-- What an inbox keeps stands for what was heard.
pub mod Places
pub mod Loops
pub mod Feeds
pub mod Whole
pub mod Records
pub mod Touching
pub mod Released
pub mod Batches
pub mod Hears
pub mod Fresh
pub mod Later
