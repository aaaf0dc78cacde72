use Rattle.std.proofs.Common.{◌≡◌, ◌∙◌, ap, sym, subst, length, arith}
use Rattle.std.proofs.lemmas.List.{length-map}
use Rattle.bloom_forms.specs.declared.numbered.NumberedExpr.{NumberedExpr}
use Rattle.bloom_forms.specs.Borrowed.{names_in}
use Rattle.bloom_forms.specs.Columns.{columns_of}
use Rattle.bloom_forms.specs.Lookup.{declared}
use Rattle.bloom_forms.specs.Numbered.{IsNumbered}
use Rattle.bloom_forms.specs.Query.Query.{group}
use Rattle.bloom_forms.specs.Rows.{column_numbers, numbered_agg}
use Rattle.bloom_forms.proofs.numbering.NumberedPart.group.Goals as goal

pub returns : goal.returns
returns c = λ cs q numberable part.
    let numbers : c.in_ok-numbers.numbers ≡ column_numbers (columns_of (declared cs) q) c.args.keys.now = c.in_ok-numbers.ensures ∙ (λ i. column_numbers ((ap names_in c.deref.ensures.value ∙ part.columns) i) c.args.keys.now) in
    let by : c.numbered_agg-agg.result ≡ numbered_agg (columns_of (declared cs) q) c.args.agg.now = c.numbered_agg-agg.ensures ∙ (λ i. numbered_agg ((ap names_in c.deref-2.ensures.value ∙ part.columns) i) c.args.agg.now) in
    record {
      expr = subst (λ (e : NumberedExpr). IsNumbered cs (group q c.args.keys.now c.args.agg.now c.args.name.now) e) (sym c.in_ok-expr.ensures) (part.expr, numbers, by);
      columns = c.in_ok-all.ensures;
      few = omega (arith, numberable.1, ap length c.in_ok-all.ensures, length-map c.in_ok-all.all.items (λ name. name.now));
    }
