-- the rows so far
use Rattle.std.proofs.Common.{◌≡◌, take}
use Rattle.std.specs.List.{flat_map}
use Rattle.bloom_forms.specs.StockSteps.{split_row}
use Rattle.blz_boxes.proofs.words.split_rows.Given as goal

abbrev pub invariant-loop-row : goal.invariant-loop-row
invariant-loop-row l = l.rows.items ≡ flat_map (split_row l.split) (take l.row-index l.arriving)
