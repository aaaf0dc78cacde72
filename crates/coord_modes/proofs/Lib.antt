mod KeptLemmas
pub mod Later
pub mod CyclesLater
pub mod FreshRegions
pub mod PlanSteps
pub mod KeysFound
pub mod PortKeyLemmas
pub mod WalkLemmas
pub mod NoteLemmas
pub mod GoodLemmas
pub mod TriedLemmas
