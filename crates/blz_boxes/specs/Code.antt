-- What private functions give.
pub mod KeptRecords
pub mod Numbers
pub mod Texts
