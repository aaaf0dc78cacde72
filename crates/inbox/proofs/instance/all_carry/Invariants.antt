-- all so far pass
use Rattle.std.proofs.Common.{◌≡◌, ◌<◌, ◌||◌, not, ℕ, true}
use Rattle.topo_forms.specs.Carried.{carries_key}
use Rattle.topo_forms.specs.View.{goes_to}
use Rattle.inbox.proofs.instance.all_carry.Given as goal

abbrev pub invariant-loop-stream : goal.invariant-loop-stream
invariant-loop-stream l = (s : ℕ) → s < l.stream → (not (goes_to l.valid.view l.component l.port s) || carries_key l.valid.view l.key.bits s) ≡ true
