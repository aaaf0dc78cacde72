use Rattle.bloom_parse.proofs.Machine.PlainEndLaw.{completed}
use Rattle.bloom_parse.proofs.laws.plain_end_law.Goals as goal

pub returns : goal.returns
returns c = record { completed = completed }
