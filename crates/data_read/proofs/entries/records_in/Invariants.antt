use Rattle.std.proofs.Common.{◌≡◌, ◌+◌, drop}
use Rattle.serde_json.specs.View.{items_view}
use Rattle.data_read.specs.Form.{records_in}
use Rattle.data_read.proofs.Front.{with_entries}
use Rattle.data_read.proofs.entries.records_in.Given as goal

-- the records so far, and those of the rest, are those of all
abbrev pub invariant-loop-place : goal.invariant-loop-place
invariant-loop-place l = with_entries l.records.items (records_in l.types l.name (l.row + l.place) (items_view (drop l.place l.values))) ≡ records_in l.types l.name l.row (items_view l.values)
