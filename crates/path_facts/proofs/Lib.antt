pub mod GatesLemmas
pub mod RootsLemmas
