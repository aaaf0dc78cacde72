use Rattle.bloom_parse.proofs.Printed.BoundsLaw.{bounds_law}
use Rattle.bloom_parse.proofs.laws.bounds_law.Goals as goal

pub returns : goal.returns
returns c = bounds_law
