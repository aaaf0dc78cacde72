use Rattle.std.proofs.Common.{ℕ, ◌<◌, get_or}
use Rattle.bloom_forms.specs.Checks.{IsChecked}
use Rattle.bloom_forms.specs.Form.{Accepted}
use Rattle.topo_types.proofs.validation.known.Given as goal

-- those so far are checked
abbrev pub invariant-loop-checked : goal.invariant-loop-checked
invariant-loop-checked l = (k : ℕ) → k < l.checked-index → (d : Accepted) → IsChecked (get_or l.modules k d).form (get_or l.modules k d).heads
