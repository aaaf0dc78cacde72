-- Lists of numbers.
pub mod NumbersLemmas
