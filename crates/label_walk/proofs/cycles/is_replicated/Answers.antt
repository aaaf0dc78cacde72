-- The components are the members.
use Rattle.std.proofs.Common.{ℕ, List, ap, ◌∙◌}
use Rattle.std.specs.List.{list_any}
use Rattle.topo_forms.specs.View.{is_replicated}
use Rattle.label_walk.proofs.cycles.is_replicated.Goals as goal

pub returns : goal.returns
returns c = c.is_one_replicated.ensures ∙ ap (λ (members : List ℕ). list_any (is_replicated c.args.valid.now.view) members) (c.deref.ensures.value ∙ c.in_ok-members.ensures.members)
