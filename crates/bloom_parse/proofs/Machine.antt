-- The machine that reads token by token.
pub mod Machine
pub mod MachineLemmas
pub mod PlacesCorrect
pub mod PlainEndLaw
