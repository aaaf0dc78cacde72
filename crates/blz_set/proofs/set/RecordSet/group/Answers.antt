use Rattle.std.proofs.Common.{◌≤◌, ◌∙◌, sym, ap, subst, arith, length, map, take_all, List}
use Rattle.blz_value.specs.Record.{Row}
use Rattle.blz_value.specs.Operators.{cells, project_rows}
use Rattle.blz_value.specs.Groups.{with_key, group_rows}
use Rattle.blz_set.specs.RecordSet.{row_limit}
use Rattle.blz_set.specs.Code.Groups.{grouped}
use Rattle.blz_set.specs.declared.entry.Entry.{Entry}
use Rattle.blz_set.specs.Code.Entry.{row_of, rows_of}
use Rattle.blz_set.proofs.RecordSets.{set_is_set, gives_set}
use Rattle.blz_set.proofs.Keys.{keys_are, run_is, length-run-le, grouped_set, grouped_few}
use Rattle.blz_set.proofs.set.RecordSet.group.Goals as goal

pub grouped_row-requires : goal.grouped_row-requires
grouped_row-requires c =
    let columns = c.args.keys.now in
    let self = c.args.self.now in
    let index = c.in_ok-index.index in
    let key = cells columns (row_of c.first-item.result) in
    length-run-le columns key self c.run.result.now c.rows.ensures.set
    (run_is columns index.columns.now key c.rows.result.now self (rows_of index.entries.items) c.run.result.now c.in_ok-index.ensures.columns c.in_ok-index.ensures.rows c.rows.ensures.all (c.run.ensures ∙ ap (λ row. with_key index.columns.now (cells columns row) (rows_of index.entries.items)) c.row-row.ensures))

pub invariant_of-result : goal.invariant_of-result
invariant_of-result c =
    let columns = c.args.keys.now in
    let self = c.args.self.now in
    let index = c.in_ok-index.index in
    let keys = project_rows columns (rows_of c.in_ok-firsts.firsts.items) in
    let all = keys_are columns index.columns.now c.rows.result.now self (rows_of index.entries.items) (rows_of c.in_ok-firsts.firsts.items) c.in_ok-index.ensures.columns c.in_ok-index.ensures.rows c.rows.ensures.all c.in_ok-firsts.ensures in
    let made = c.loop-first.invariant ∙ ap (λ (l : List Entry). map (grouped columns c.args.agg self) (project_rows columns (rows_of l))) (take_all c.loop-first.first-index c.deref-first-items.result.now (omega arith) ∙ c.deref-first-items.ensures.value) in
    set_is_set (group_rows columns c.args.agg self) c.loop-first.rows.items (made ∙ grouped_set columns self keys all c.args.agg)
    (subst (λ (l : List Row). length l ≤ row_limit) (sym made) (grouped_few columns self keys all c.rows.ensures.set c.args.agg))

pub returns : goal.returns
returns c =
    let columns = c.args.keys.now in
    let self = c.args.self.now in
    let index = c.in_ok-index.index in
    let keys = project_rows columns (rows_of c.in_ok-firsts.firsts.items) in
    let all = keys_are columns index.columns.now c.rows.result.now self (rows_of index.entries.items) (rows_of c.in_ok-firsts.firsts.items) c.in_ok-index.ensures.columns c.in_ok-index.ensures.rows c.rows.ensures.all c.in_ok-firsts.ensures in
    let made = c.loop-first.invariant ∙ ap (λ (l : List Entry). map (grouped columns c.args.agg self) (project_rows columns (rows_of l))) (take_all c.loop-first.first-index c.deref-first-items.result.now (omega arith) ∙ c.deref-first-items.ensures.value) in
    gives_set (group_rows columns c.args.agg self) c.loop-first.rows.items (made ∙ grouped_set columns self keys all c.args.agg)
    (subst (λ (l : List Row). length l ≤ row_limit) (sym made) (grouped_few columns self keys all c.rows.ensures.set c.args.agg))
