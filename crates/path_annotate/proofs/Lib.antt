mod Lists
mod ByNumberLemmas
mod ByNumberCorrect
mod ReadingsCorrect
mod UsesLemmas
mod AnnotationCorrect
