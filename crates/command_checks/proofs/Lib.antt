pub mod EachLemmas
pub mod ModulesLemmas
pub mod GivenLemmas
pub mod ScriptLemmas
pub mod FileLemmas
pub mod RefusedLemmas
