-- What the first fault says, as the code finds it.
pub mod SizeLemmas
pub mod BuiltSites
pub mod BuiltFacts
pub mod EarlyKinds
pub mod EarlyEnds
pub mod KnownNotes
pub mod OfViewLemmas
pub mod FaultParts
pub mod ValidatingLemmas
pub mod WholeLemmas
