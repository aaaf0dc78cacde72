-- the records so far
use Rattle.std.proofs.Common.{◌≡◌, take}
use Rattle.std.specs.List.{filter_map}
use Rattle.std.specs.BTreeMap.{get}
use Rattle.blz_value.specs.Record.{record_cmp}
use Rattle.blz_boxes.proofs.latest_table.LatestTable.found.Given as goal

abbrev pub invariant-loop-key : goal.invariant-loop-key
invariant-loop-key l = l.rows.items ≡ filter_map (get record_cmp l.self.records) (take l.key-index l.keys)
