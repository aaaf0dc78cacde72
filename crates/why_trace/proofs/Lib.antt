pub mod AsideLemmas
pub mod Trimming
pub mod Sublists
pub mod KeptLemmas
pub mod OpeningAgain
pub mod TrialLemmas
pub mod WorkedTrims
