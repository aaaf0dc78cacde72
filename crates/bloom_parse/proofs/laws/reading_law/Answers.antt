use Rattle.bloom_parse.proofs.Grammar.ReadingLaw.{reads_texts, reads_faults}
use Rattle.bloom_parse.proofs.laws.reading_law.Goals as goal

pub returns : goal.returns
returns c = record { texts = reads_texts; faults = reads_faults }
