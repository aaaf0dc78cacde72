use Rattle.std.proofs.Common.{◌∙◌}
use Rattle.messages.proofs.SubjectLemmas.{row_test}
use Rattle.messages.proofs.emitted.Emitted.has_row.Goals as goal

pub returns : goal.returns
returns c = c.contains_key.ensures ∙ row_test c.args.id c.self.inside.counts.entries c.args.self.now c.self.view_is
