use Rattle.std.proofs.Common.{◌∙◌, ◌++◌, List, sym, subst}
use Rattle.blz_value.specs.Operators.{project_rows}
use Rattle.blz_value.specs.Record.{Row}
use Rattle.blz_value.specs.Sets.{set_of}
use Rattle.blz_value.proofs.SetLaws.{sorted_set_of}
use Rattle.blz_set.proofs.Unions.{handed_on}
use Rattle.blz_set.specs.Missing.{missing_from}
use Rattle.bloom_growth.specs.Bags.{entered_rows, left_rows}
use Rattle.bloom_growth.specs.Growth.{Extends}
use Rattle.bloom_growth.specs.Turned.{TurnsInto}
use Rattle.bloom_growth.proofs.BagRows.{on_ok, alike_bag, alike_rows, columns_start, start_rows, columns_end, few_columns, few_end, columns_fault}
use Rattle.bloom_growth.proofs.BagsLemmas.{extends_none}
use Rattle.bloom_growth.proofs.bag.Bag.turn_columns.Goals as goal

pub returns-in_err-put_columns-clause-rows : goal.returns-in_err-put_columns-clause-rows
returns-in_err-put_columns-clause-rows c = λ old new t.
    let columns = c.args.columns.now in
    let more = c.args.part.more.now in
    let gone = c.args.part.gone.now in
    let bag = c.args.self.now in
    let kept = project_rows columns (missing_from gone old) in
    let fault = c.in_err-put_columns.field-0.0 in
    let middle = c.in_ok-take_columns.ensures.bag kept (columns_start columns old new more gone bag t) in
    subst (TurnsInto (set_of (project_rows columns old)) (set_of (project_rows columns new))) (sym (handed_on _ c.from_residual-in_err-put_columns.result fault c.from_residual-in_err-put_columns.ensures.1))
    (columns_fault columns old new more gone bag t c.put_columns.new.self fault (c.in_err-put_columns.ensures.bag kept (few_columns columns old new more gone bag t) middle))

pub returns-clause-bag : goal.returns-clause-bag
returns-clause-bag c = on_ok c.turn.result (λ old new t.
    let columns = c.args.columns.now in
    let more = c.args.part.more.now in
    let gone = c.args.part.gone.now in
    let bag = c.args.self.now in
    let kept = project_rows columns (missing_from gone old) in
    let middle = c.in_ok-take_columns.ensures.bag kept (columns_start columns old new more gone bag t) in
    alike_bag (project_rows columns more ++ kept) (project_rows columns new) c.put_columns.new.self (columns_end columns old new more gone bag t) (c.in_ok-put_columns.ensures.bag kept (few_columns columns old new more gone bag t) middle))

pub returns-clause-rows : goal.returns-clause-rows
returns-clause-rows c = λ old new t.
    let columns = c.args.columns.now in
    let more = c.args.part.more.now in
    let gone = c.args.part.gone.now in
    let bag = c.args.self.now in
    let kept = project_rows columns (missing_from gone old) in
    let start = columns_start columns old new more gone bag t in
    let small = few_columns columns old new more gone bag t in
    let middle = c.in_ok-take_columns.ensures.bag kept start in
    let fresh = c.new-passing.ensures in
    let left = c.in_ok-take_columns.ensures.left (set_of (project_rows columns old)) kept start (start_rows columns old new more gone bag t (left_rows c.new-passing.result) fresh.left) in
    let entered = c.in_ok-put_columns.ensures.entered (set_of kept) kept small middle (extends_none (set_of kept) (entered_rows c.take_columns.new.passing) (sorted_set_of kept) (c.take_columns.ensures.entered ∙ fresh.entered)) in
    c.turn.ensures (set_of (project_rows columns old)) (set_of kept) (set_of (project_rows columns new)) (record {
      left = subst (λ (l : List Row). Extends (set_of kept) (set_of (project_rows columns old)) l) (sym c.put_columns.ensures.left) left;
      entered = subst (λ (l : List Row). Extends (set_of kept) l (entered_rows c.put_columns.new.passing)) (alike_rows (project_rows columns more ++ kept) (project_rows columns new) (columns_end columns old new more gone bag t)) entered;
      few_old = t.stand.few;
      few_new = few_end columns old new more gone bag t;
    })
