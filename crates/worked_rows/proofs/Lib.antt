mod TableCounts
mod RunsLemmas
