-- Lemmas for the calls of this folder.
pub mod ScriptsLemmas
pub mod RepliesLemmas
pub mod FilesLemmas
pub mod NetLemmas
pub mod SeenLemmas
pub mod WitnessLemmas
pub mod LookedLemmas
pub mod ReasonsLemmas
