use Rattle.std.proofs.Common.{◌∙◌, length, ap, sym}
use Rattle.bloom_forms.specs.Form.{Accepted}
use Rattle.bloom_index.specs.Code.ByRows.{only_chooses}
use Rattle.bloom_index.specs.Sides.{module_sides}
use Rattle.bloom_index.proofs.body.IndexBody.new.Goals as goal

pub invariant_of-result : goal.invariant_of-result
invariant_of-result c = record {
  counted = c.in_ok-sides.ensures ∙ ap (λ (a : Accepted). length (module_sides a.form)) (sym c.in_ok-program.ensures);
  chosen = c.only_chooses-by_rows.ensures ∙ ap (λ (a : Accepted). only_chooses a.form) (sym c.in_ok-program.ensures);
  empty = c.new.ensures;
  stands = tt;
}
