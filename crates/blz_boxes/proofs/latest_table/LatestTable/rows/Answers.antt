use Rattle.std.proofs.Common.{◌≡◌, ◌<◌, ◌∙◌, ap, sym, ◌++◌, length, arith}
use Rattle.std.specs.BTreeMap.{values}
use Rattle.std.proofs.lemmas.List.{append-nil}
use Rattle.std.proofs.lemmas.Map.Entries.{length-values_of}
use Rattle.blz_set.specs.RecordSet.{row_limit}
use Rattle.blz_value.specs.Record.{Row}
use Rattle.blz_value.specs.Sets.{set_of}
use Rattle.blz_value.proofs.RowSets.{length-set_of-le}
use Rattle.blz_boxes.proofs.latest_table.LatestTable.rows.Goals as goal

pub unreachable-requires : goal.unreachable-requires
unreachable-requires c =
    let fault = c.in-Err-TooManyRows in
    let over : row_limit < length (set_of c.loop-row.rows.items) = rw fault.field-0-is at fault.ensures in
    let all : c.loop-row.rows.items ≡ values c.args.self.now.records = sym (append-nil c.loop-row.rows.items) ∙ ap (λ l. c.loop-row.rows.items ++ l) (sym c.in-None.ensures.steps.0) ∙ c.loop-row.invariant in
    omega (arith, over, length-set_of-le c.loop-row.rows.items, ap (length {A = Row}) all, length-values_of c.args.self.now.records.entries, c.args.self.now.small)
