-- a member of each region so far
use Rattle.std.proofs.Common.{◌≡◌, ◌<◌, ℕ, true, get_or, length}
use Rattle.blz_value.specs.Graph.{is_in}
use Rattle.label_walk.specs.Paths.{region_at}
use Rattle.coord_synth.proofs.planning.first_members.Given as goal

abbrev pub invariant-loop-region : goal.invariant-loop-region
invariant-loop-region l = record {
  each : length l.firsts.items ≡ l.region;
  members : (r : ℕ) → r < length l.firsts.items → is_in (get_or l.firsts.items r 0) (region_at l.valid.view r) ≡ true;
}
