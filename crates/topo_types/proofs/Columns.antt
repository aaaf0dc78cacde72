-- Columns, and the attributes that they name.
pub mod Growing
pub mod BodyColumns
