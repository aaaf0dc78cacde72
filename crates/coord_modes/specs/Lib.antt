pub mod Choice
pub mod Code
pub mod Plan
pub mod Keys
