-- What is read is what the grammar says, and where it stops.
pub mod SingleCorrect
pub mod StepLemmas
pub mod PredicateCorrect
pub mod PredicateComplete
pub mod RepeatLemmas
pub mod ListLemmas
pub mod ExprCorrect
pub mod ExprComplete
pub mod ModuleCorrect
pub mod ModuleComplete
pub mod ParsingLemmas
pub mod ReadingLaw
