use Rattle.std.proofs.Common.{◌≡◌, ◌∙◌, ap, sym, subst}
use Rattle.bloom_forms.specs.declared.numbered.NumberedExpr.{NumberedExpr}
use Rattle.bloom_forms.specs.Borrowed.{names_in}
use Rattle.bloom_forms.specs.Columns.{columns_of, pair_numbers}
use Rattle.bloom_forms.specs.Lookup.{declared}
use Rattle.bloom_forms.specs.Numbered.{IsNumbered}
use Rattle.bloom_forms.specs.Query.Query.{notin}
use Rattle.bloom_forms.proofs.numbering.NumberedPart.not_in.Goals as goal

pub returns : goal.returns
returns c = λ cs a b left right.
    let others : names_in c.deref-2.result.now ≡ columns_of (declared cs) b = ap names_in c.deref-2.ensures.value ∙ right.columns in
    let numbers : c.in_ok-numbers.numbers ≡ pair_numbers (columns_of (declared cs) a) (columns_of (declared cs) b) c.args.pairs.now = c.in_ok-numbers.ensures ∙ (λ i. pair_numbers ((ap names_in c.deref.ensures.value ∙ left.columns) i) (others i) c.args.pairs.now) in
    record {
      expr = subst (λ (e : NumberedExpr). IsNumbered cs (notin a b c.args.pairs.now) e) (sym c.in_ok-expr.ensures) (left.expr, right.expr, numbers);
      columns = left.columns;
      few = left.few;
    }
