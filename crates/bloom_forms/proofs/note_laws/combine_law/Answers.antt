use Rattle.bloom_forms.proofs.Combining.CoversLaw.{combine_law}
use Rattle.bloom_forms.proofs.note_laws.combine_law.Goals as goal

pub returns : goal.returns
returns c = combine_law
