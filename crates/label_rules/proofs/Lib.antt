pub mod LabelLemmas
pub mod Worst
pub mod NoBetterLaw
pub mod PathTableLemmas
pub mod MonotoneLaw
