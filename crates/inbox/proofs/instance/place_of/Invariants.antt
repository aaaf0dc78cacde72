-- the attribute is none of those before
use Rattle.std.proofs.Common.{◌≡◌, ◌<◌, ◌==◌, ℕ, false, get_or}
use Rattle.inbox.proofs.instance.place_of.Given as goal

abbrev pub invariant-loop-place : goal.invariant-loop-place
invariant-loop-place l = (k : ℕ) → k < l.place → (get_or l.columns k 0 == l.attribute) ≡ false
