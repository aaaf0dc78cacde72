-- What private functions give.
pub mod Looking
pub mod Making
pub mod Pieces
pub mod Stale
pub mod Watch
pub mod Works
pub mod Written
