pub mod Lines
pub mod Fields
pub mod Kinds
pub mod Reading
pub mod Text
pub mod Small
pub mod Given
