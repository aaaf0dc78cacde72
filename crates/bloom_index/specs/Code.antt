-- What private functions give.
pub mod Plans
pub mod Copies
pub mod Growth
pub mod Lasting
pub mod Evaluation
pub mod Emptiness
pub mod Heads
pub mod Kept
pub mod SideParts
pub mod HeadRules
pub mod NumberedProps
pub mod KeptProps
pub mod StepSets
pub mod Arriving
pub mod Steps
pub mod ByRows
