use Rattle.bloom_forms.proofs.Combining.Using.{uses_by_cone, uses_have_gate}
use Rattle.bloom_forms.proofs.note_laws.uses_law.Goals as goal

pub returns-clause-cone : goal.returns-clause-cone
returns-clause-cone c = λ a checked. uses_by_cone a.form a.heads checked

pub returns-clause-gate : goal.returns-clause-gate
returns-clause-gate c = uses_have_gate
