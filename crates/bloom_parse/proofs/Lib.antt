pub mod Machine
pub mod Grammar
pub mod Printed
pub mod Texts
