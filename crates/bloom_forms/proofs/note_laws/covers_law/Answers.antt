use Rattle.bloom_forms.proofs.Combining.CoversLaw.{covers_law}
use Rattle.bloom_forms.proofs.note_laws.covers_law.Goals as goal

pub returns : goal.returns
returns c = covers_law
