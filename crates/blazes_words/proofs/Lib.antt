pub mod NumbersLemmas
pub mod WordsLemmas
