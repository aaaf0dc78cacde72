-- Collections by their names and by their numbers.
pub mod Keys
pub mod Numbers
pub mod Forms
pub mod Chosen
pub mod KindSets
pub mod Small
pub mod NameNumbers
pub mod KindNumbersLemmas
pub mod JoinedNames
