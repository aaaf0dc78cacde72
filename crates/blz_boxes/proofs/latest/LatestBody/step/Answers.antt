use Rattle.std.proofs.Common.{◌≡◌, ◌∙◌, ap, arith, List, length, sym, subst}
use Rattle.blz_value.specs.Record.{Row}
use Rattle.bloom_forms.specs.Step.{Sets, set_at}
use Rattle.bloom_forms.specs.Widths.{AreWide}
use Rattle.blz_boxes.specs.Code.KeptRecords.{records_of}
use Rattle.blz_boxes.proofs.KeptWidths.{first_set, latest_stepped}
use Rattle.blz_boxes.proofs.latest.LatestBody.step.Goals as goal

pub invariant_of-self-clause-tables : goal.invariant_of-self-clause-tables
invariant_of-self-clause-tables c =
    let body = c.args.self.now in
    let put : c.rows.result.now ≡ set_at c.args.now.now 0 = c.rows.ensures.all ∙ first_set c.sets.result.now c.put-item.result (omega (arith, c.in-len2.len_at_least)) c.put-item.is ∙ ap (λ (sets : Sets). set_at sets 0) c.sets.ensures in
    latest_stepped c.put.result body.columns body.table.columns.items (records_of body.table.records) (records_of c.put.new.self.records) c.rows.result.now body.tables (subst (λ (rows : List Row). AreWide (length body.columns) rows) (sym put) c.requires.wide) c.put.ensures.kept c.put.ensures.err
