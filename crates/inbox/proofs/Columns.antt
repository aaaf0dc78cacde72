-- Columns of streams, ports and outputs, by their attributes, and the widths of rows.
pub mod Attributes
pub mod OwnColumns
pub mod Viewed
pub mod Wide
