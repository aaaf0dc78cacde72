-- the keys so far
use Rattle.std.proofs.Common.{◌≡◌}
use Rattle.bloom_forms.specs.StockSteps.{keys_in_order}
use Rattle.blz_boxes.proofs.latest.keys_in_order.Given as goal

abbrev pub invariant-loop-column : goal.invariant-loop-column
invariant-loop-column l = l.columns.items ≡ keys_in_order l.column l.keys
