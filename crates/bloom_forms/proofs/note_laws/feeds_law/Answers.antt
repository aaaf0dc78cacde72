use Rattle.bloom_forms.proofs.Combining.Feeding.{feeds_by_rules, feeds_by_closure}
use Rattle.bloom_forms.proofs.note_laws.feeds_law.Goals as goal

pub returns-clause-recursion : goal.returns-clause-recursion
returns-clause-recursion c = λ a checked. feeds_by_rules a.form a.heads checked

pub returns-clause-read : goal.returns-clause-read
returns-clause-read c = λ a checked. feeds_by_closure a.form a.heads checked
