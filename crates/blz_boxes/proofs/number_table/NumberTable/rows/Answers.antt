use Rattle.std.proofs.Common.{◌≡◌, ◌<◌, ◌∙◌, ap, sym, ◌++◌, length, map, arith}
use Rattle.std.proofs.lemmas.List.{append-nil, length-map}
use Rattle.blz_set.specs.RecordSet.{row_limit}
use Rattle.blz_value.specs.Record.{Row}
use Rattle.blz_value.specs.Sets.{set_of}
use Rattle.blz_value.proofs.RowSets.{length-set_of-le}
use Rattle.blz_boxes.proofs.NumberRows.{entry_row}
use Rattle.blz_boxes.proofs.number_table.NumberTable.rows.Goals as goal

pub unreachable-requires : goal.unreachable-requires
unreachable-requires c =
    let fault = c.in-Err-TooManyRows in
    let over : row_limit < length (set_of c.loop-row.rows.items) = rw fault.field-0-is at fault.ensures in
    let all : c.loop-row.rows.items ≡ map entry_row c.args.self.now.numbers.entries = sym (append-nil c.loop-row.rows.items) ∙ ap (λ l. c.loop-row.rows.items ++ map entry_row l) (sym c.in-None.ensures.steps.0) ∙ c.loop-row.invariant in
    omega (arith, over, length-set_of-le c.loop-row.rows.items, ap (length {A = Row}) all, length-map c.args.self.now.numbers.entries entry_row, c.args.self.now.small)
