pub mod LevelsLemmas
pub mod WindowsLemmas
