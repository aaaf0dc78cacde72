pub mod Turns
pub mod PartForms
pub mod FreshParts
pub mod KeptParts
pub mod Bodies
pub mod Code
