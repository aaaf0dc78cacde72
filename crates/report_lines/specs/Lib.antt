pub mod Words
pub mod Lines
pub mod Refusals
pub mod Reports
pub mod LabelText
pub mod DeriveText
pub mod Code
