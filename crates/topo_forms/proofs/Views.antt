-- The view of a topology without a fault.
pub mod InRange
pub mod KeptLemmas
pub mod IndexLemmas
pub mod ViewParts
pub mod ViewNumbers
pub mod ViewColumns
pub mod ViewRuns
pub mod ValidViews
pub mod GivenModules
pub mod ViewBounds
