-- Uses of ports, and the notes that combine them.
pub mod CoversLaw
pub mod Feeding
pub mod Using
pub mod AnnotationLemmas
pub mod GateSets
pub mod GivenLemmas
pub mod ConfluentUses
