pub mod SteadyLemmas
pub mod ReplyLemmas
