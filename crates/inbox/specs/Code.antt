-- What the private parts of an inbox keep.
pub mod Places
pub mod Waiting
pub mod Heard
pub mod Touching
pub mod Batches
