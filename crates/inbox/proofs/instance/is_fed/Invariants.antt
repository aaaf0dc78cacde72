-- none so far goes there
use Rattle.std.proofs.Common.{◌≡◌, ◌<◌, ℕ, false}
use Rattle.topo_forms.specs.View.{goes_to}
use Rattle.inbox.proofs.instance.is_fed.Given as goal

abbrev pub invariant-loop-stream : goal.invariant-loop-stream
invariant-loop-stream l = (s : ℕ) → s < l.stream → goes_to l.valid.view l.component l.port s ≡ false
