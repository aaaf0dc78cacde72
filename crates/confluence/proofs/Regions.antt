-- Region by region: equal contents.
pub mod Members
pub mod ByEmission
pub mod Acyclic
pub mod Cyclic
pub mod Induction
pub mod RegionLaw
pub mod ValidatedLaw
