use Rattle.std.proofs.Common.{◌≤◌, ◌≡◌, ◌++◌, ◌∷◌, [], true, false, le-leb, ◌∙◌, sym, ap, subst, arith, filter, length, take_all, List}
use Rattle.std.proofs.lemmas.Bool.{lt-leb}
use Rattle.std.proofs.lemmas.List.{append-nil}
use Rattle.blz_value.specs.Record.{Row}
use Rattle.blz_value.specs.Operators.{cells, project_rows}
use Rattle.blz_value.specs.Groups.{with_key, at_least_rows}
use Rattle.blz_set.specs.RecordSet.{row_limit}
use Rattle.blz_set.specs.Code.Groups.{is_often}
use Rattle.blz_set.specs.declared.entry.Entry.{Entry}
use Rattle.blz_set.specs.Code.Entry.{row_of, rows_of}
use Rattle.blz_set.proofs.RecordSets.{set_is_set, gives_set}
use Rattle.blz_set.proofs.Keys.{keys_are, run_is, length-run, often_more, often_set, often_few}
use Rattle.blz_set.proofs.set.RecordSet.at_least.Goals as goal
use Rattle.blz_set.proofs.set.RecordSet.at_least.Goals.{then-bound-run+in_ok-copy_cells+in_ok-push, else-bound-run}

pub loop-first-preserved : goal.loop-first-preserved
loop-first-preserved c =
    let columns = c.args.keys.now in
    let self = c.args.self.now in
    let index = c.in_ok-index.index in
    let first = c.first-item.result in
    let key = cells columns (row_of first) in
    let count = length-run columns key self c.run.result.now
    (run_is columns index.columns.now key c.rows.result.now self (rows_of index.entries.items) c.run.result.now c.in_ok-index.ensures.columns c.in_ok-index.ensures.rows c.rows.ensures.all (c.run.ensures ∙ ap (λ row. with_key index.columns.now (cells columns row) (rows_of index.entries.items)) c.row-row.ensures)) in
    elim c.if-bound-run.branch [
      | then-bound-run+in_ok-copy_cells+in_ok-push w ↦
          let test : is_often columns c.args.bound self key ≡ true = le-leb c.args.bound (length (with_key columns key self)) (omega (arith, count, w.if-bound-run.true)) in
          ap (λ v. v.items) w.rows-is ∙ w.in_ok-push.ensures.items ∙ ap (λ r. c.loop-first.rows.items ++ r ∷ []) (w.from_values.ensures ∙ w.in_ok-copy_cells.ensures ∙ ap (cells columns) c.row-row.ensures) ∙ ap (λ l. l ++ key ∷ []) c.loop-first.invariant
          ∙ sym (often_more columns c.args.bound self c.deref-first-items.result.now c.loop-first.first-index first true (omega arith) c.first-item.is test)
      | else-bound-run w ↦
          let test : is_often columns c.args.bound self key ≡ false = lt-leb c.args.bound (length (with_key columns key self)) (omega (arith, count, w.if-bound-run.false)) in
          ap (λ v. v.items) w.rows-is ∙ c.loop-first.invariant
          ∙ sym (often_more columns c.args.bound self c.deref-first-items.result.now c.loop-first.first-index first false (omega arith) c.first-item.is test ∙ append-nil _)
    ]

pub invariant_of-result : goal.invariant_of-result
invariant_of-result c =
    let columns = c.args.keys.now in
    let self = c.args.self.now in
    let index = c.in_ok-index.index in
    let keys = project_rows columns (rows_of c.in_ok-firsts.firsts.items) in
    let all = keys_are columns index.columns.now c.rows.result.now self (rows_of index.entries.items) (rows_of c.in_ok-firsts.firsts.items) c.in_ok-index.ensures.columns c.in_ok-index.ensures.rows c.rows.ensures.all c.in_ok-firsts.ensures in
    let made = c.loop-first.invariant ∙ ap (λ (l : List Entry). filter (is_often columns c.args.bound self) (project_rows columns (rows_of l))) (take_all c.loop-first.first-index c.deref-first-items.result.now (omega arith) ∙ c.deref-first-items.ensures.value) in
    set_is_set (at_least_rows columns c.args.bound self) c.loop-first.rows.items (made ∙ often_set columns self keys all c.args.bound)
    (subst (λ (l : List Row). length l ≤ row_limit) (sym made) (often_few columns self keys all c.rows.ensures.set c.args.bound))

pub returns : goal.returns
returns c =
    let columns = c.args.keys.now in
    let self = c.args.self.now in
    let index = c.in_ok-index.index in
    let keys = project_rows columns (rows_of c.in_ok-firsts.firsts.items) in
    let all = keys_are columns index.columns.now c.rows.result.now self (rows_of index.entries.items) (rows_of c.in_ok-firsts.firsts.items) c.in_ok-index.ensures.columns c.in_ok-index.ensures.rows c.rows.ensures.all c.in_ok-firsts.ensures in
    let made = c.loop-first.invariant ∙ ap (λ (l : List Entry). filter (is_often columns c.args.bound self) (project_rows columns (rows_of l))) (take_all c.loop-first.first-index c.deref-first-items.result.now (omega arith) ∙ c.deref-first-items.ensures.value) in
    gives_set (at_least_rows columns c.args.bound self) c.loop-first.rows.items (made ∙ often_set columns self keys all c.args.bound)
    (subst (λ (l : List Row). length l ≤ row_limit) (sym made) (often_few columns self keys all c.rows.ensures.set c.args.bound))
