-- What the first fault says, and what it says that there is none.
pub mod NoFault
