-- What rules read, directly and through others.
pub mod Unfolding
pub mod Quiet
pub mod Cones
pub mod PlainLemmas
pub mod ReadsLemmas
pub mod MomentaryLemmas
pub mod ByCones
pub mod ProperLemmas
pub mod Behind
pub mod ClosedFormsLemmas
pub mod GoodTables
