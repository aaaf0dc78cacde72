pub mod Built
pub mod Bodies
pub mod Chosen
pub mod Named
pub mod OfView
pub mod Validating
