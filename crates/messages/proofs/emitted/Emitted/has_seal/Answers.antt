use Rattle.std.proofs.Common.{◌∙◌}
use Rattle.messages.proofs.SubjectLemmas.{seal_test}
use Rattle.messages.proofs.emitted.Emitted.has_seal.Goals as goal

pub returns : goal.returns
returns c = c.contains_key.ensures ∙ seal_test c.args.key.now c.in_ok-copy.field-0 c.self.inside.counts.entries c.args.self.now c.in_ok-copy.ensures c.self.view_is
