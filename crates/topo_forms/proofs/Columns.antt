-- Columns, and the attributes that they name.
pub mod AttributeNames
pub mod SmallSides
pub mod OwnPorts
