-- What is printed is a text of the grammar.
pub mod TreesLemmas
pub mod PrintLemmas
pub mod PrintLaw
pub mod BoundsLemmas
pub mod NameLemmas
pub mod PrintableLemmas
pub mod BoundsLaw
