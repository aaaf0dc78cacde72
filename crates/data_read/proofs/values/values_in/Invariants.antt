use Rattle.std.proofs.Common.{◌≡◌, drop}
use Rattle.serde_json.specs.View.{items_view}
use Rattle.data_read.specs.Values.{values_in}
use Rattle.data_read.proofs.Front.{with_front}
use Rattle.data_read.proofs.values.values_in.Given as goal

-- the values so far, and those of the rest, are those of all
abbrev pub invariant-loop-place : goal.invariant-loop-place
invariant-loop-place l = with_front l.row.items (values_in (drop l.place l.types) (items_view (drop l.place l.values))) ≡ values_in l.types (items_view l.values)
