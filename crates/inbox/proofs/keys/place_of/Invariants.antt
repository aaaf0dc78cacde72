-- the attribute is none of those before
use Rattle.std.proofs.Common.{◌≡◌, ◌<◌, ℕ, Some, None, false, get_or}
use Rattle.bloom_forms.specs.Roots.{are_same}
use Rattle.topo_forms.specs.View.{stream_at}
use Rattle.inbox.proofs.keys.place_of.Given as goal

abbrev pub invariant-loop-place : goal.invariant-loop-place
invariant-loop-place l = (k : ℕ) → k < l.place → are_same (get_or (stream_at l.valid.view l.stream).columns k None) (Some l.attribute) ≡ false
