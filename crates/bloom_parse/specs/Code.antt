-- What private functions give.
pub mod Marks
pub mod ReadingSingle
pub mod ReadingPredicates
pub mod ReadingLists
pub mod ReadingExprs
pub mod ReadingModules
pub mod ReadPlaces
pub mod Printing
