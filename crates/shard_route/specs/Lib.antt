pub mod Code
pub mod Copies
pub mod Routing
pub mod Sharding
pub mod Laws
pub mod Copying
