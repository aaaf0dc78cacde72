-- Tokens and the text between them.
pub mod RunLemmas
pub mod ByteLemmas
pub mod NumberLemmas
pub mod ShorterLemmas
pub mod TokensLemmas
pub mod SpelledLemmas
pub mod LaidLemmas
pub mod ApartLemmas
pub mod TerminalLemmas
pub mod NameTokens
pub mod NamedRuns
pub mod LiteralLaw
