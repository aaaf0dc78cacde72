use Rattle.std.proofs.Common.{◌∙◌, refl, sym}
use Rattle.bloom_eval.specs.NumberedRows.{numbered_rows}
use Rattle.bloom_parts.specs.Turns.{rows_in}
use Rattle.bloom_index.proofs.HeadsLemmas.{gets_all, head_refused, head_over, head_put}
use Rattle.bloom_index.proofs.heads.grow_by.Goals as goal

pub returns-in_err-change : goal.returns-in_err-change
returns-in_err-change c = λ e ready start has extends.
    head_refused e c.args.plan.now _ c.args.held.now ready start c.args.rows.now _ _ c.from_residual.result c.in_err-change.field-0.0 c.from_residual.ensures.1 c.evaluate.new.plan (c.in_err-change.ensures e ready)

pub returns-in_err-new : goal.returns-in_err-new
returns-in_err-new c = λ e ready start has extends.
    let rows = c.args.rows.now in
    let change = c.in_ok-change.change in
    let answers = c.in_ok-change.ensures e ready in
    let whole = gets_all change.kept (numbered_rows ready.old e) (numbered_rows ready.new e) (rows_in change.rows) (rows_in change.gone) (rows_in change.rows) rows answers.0.1.rows (λ f. has (sym answers.0.0 ∙ f)) refl in
    head_over e c.args.plan.now _ c.args.held.now ready start rows _ _ c.from_residual-in_err-new.result c.in_err-new.field-0.0 c.from_residual-in_err-new.ensures.1 (rows_in change.rows) c.taken.new.rows whole c.in_err-new.ensures

pub returns : goal.returns
returns c = λ e ready start has extends.
    let rows = c.args.rows.now in
    let change = c.in_ok-change.change in
    let answers = c.in_ok-change.ensures e ready in
    let takes = c.in_ok-new.ensures in
    let whole = gets_all change.kept (numbered_rows ready.old e) (numbered_rows ready.new e) (rows_in change.rows) (rows_in change.gone) (rows_in change.rows) rows answers.0.1.rows (λ f. has (sym answers.0.0 ∙ f)) refl in
    head_put e c.args.plan.now c.evaluate.new.plan c.args.held.now ready start rows c.taken.new.rows (rows_in c.args.fresh.now) c.in_ok-new.new (rows_in c.put_onto.new.into) c.put_onto.result (takes.0 ∙ whole) takes.1 answers.1 answers.2 extends takes.2 c.put_onto.ensures.rows c.put_onto.ensures.too_many
