-- Lists and their elements.
pub mod Tables
