-- Emitted lists: what they have, in which order, and how they grow.
pub mod Origins
pub mod Growing
pub mod Rows
pub mod Repeats
pub mod Seals
pub mod NoBody
pub mod SequencerLaw
