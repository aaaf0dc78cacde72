use Rattle.std.proofs.Common.{◌≡◌, ◌∙◌, ap, arith, [], ◌∷◌, List, length, refl, sym, subst}
use Rattle.std.specs.Prelude.{codes}
use Rattle.blz_value.specs.Record.{Row}
use Rattle.bloom_forms.specs.Step.{Sets, set_at}
use Rattle.bloom_forms.specs.Widths.{AreWide}
use Rattle.blz_boxes.specs.Code.Numbers.{numbered_records}
use Rattle.blz_boxes.proofs.KeptWidths.{first_set, number_stepped}
use Rattle.blz_boxes.proofs.number.NumberBody.step.Goals as goal

pub invariant_of-self : goal.invariant_of-self
invariant_of-self c =
    let body = c.args.self.now in
    let arriving : c.rows.result.now ≡ set_at c.args.now.now 0 = c.rows.ensures.all ∙ first_set c.sets.result.now c.arriving-item.result (omega (arith, c.in-len1.len_at_least)) c.arriving-item.is ∙ ap (λ (sets : Sets). set_at sets 0) c.sets.ensures in
    record { tables = number_stepped c.number.result body.columns (codes "n" ∷ []) (numbered_records body.table.numbers) (numbered_records c.number.new.self.numbers) c.rows.result.now refl body.tables (subst (λ (rows : List Row). AreWide (length body.columns) rows) (sym arriving) c.requires.wide) c.number.ensures.kept c.number.ensures.err }
