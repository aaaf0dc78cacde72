-- What private functions give.
pub mod ByNumber
pub mod Readings
pub mod ReadingUses
