-- Lemmas for the calls of this folder.
pub mod RepliesLemmas
pub mod FilesLemmas
pub mod OpeningLemmas
pub mod ContentsLemmas
pub mod BenchLemmas
pub mod RunLemmas
