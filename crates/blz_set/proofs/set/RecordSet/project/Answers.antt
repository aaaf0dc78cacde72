use Rattle.std.proofs.Common.{◌∙◌, ap, arith, length, take_all, List}
use Rattle.blz_value.specs.Record.{Row}
use Rattle.blz_value.specs.Operators.{project_rows}
use Rattle.blz_set.specs.declared.entry.Entry.{Entry}
use Rattle.blz_set.specs.Code.Entry.{row_of, rows_of}
use Rattle.blz_set.proofs.RecordSets.{set_is_set, gives_set}
use Rattle.blz_set.proofs.Keys.{keys_are, keys_few}
use Rattle.blz_set.proofs.set.RecordSet.project.Goals as goal

pub invariant_of-result : goal.invariant_of-result
invariant_of-result c =
    let columns = c.args.columns.now in
    let self = c.args.self.now in
    let index = c.in_ok-index.index in
    let keys = keys_are columns index.columns.now c.rows.result.now self (rows_of index.entries.items) (rows_of c.in_ok-firsts.firsts.items) c.in_ok-index.ensures.columns c.in_ok-index.ensures.rows c.rows.ensures.all c.in_ok-firsts.ensures in
    let made = c.loop-first.invariant ∙ ap (λ (l : List Entry). project_rows columns (rows_of l)) (take_all c.loop-first.first-index c.deref-first-items.result.now (omega arith) ∙ c.deref-first-items.ensures.value) ∙ keys in
    set_is_set (project_rows columns self) c.loop-first.rows.items made (keys_few columns self c.loop-first.rows.items made c.rows.ensures.set)

pub returns : goal.returns
returns c =
    let columns = c.args.columns.now in
    let self = c.args.self.now in
    let index = c.in_ok-index.index in
    let keys = keys_are columns index.columns.now c.rows.result.now self (rows_of index.entries.items) (rows_of c.in_ok-firsts.firsts.items) c.in_ok-index.ensures.columns c.in_ok-index.ensures.rows c.rows.ensures.all c.in_ok-firsts.ensures in
    let made = c.loop-first.invariant ∙ ap (λ (l : List Entry). project_rows columns (rows_of l)) (take_all c.loop-first.first-index c.deref-first-items.result.now (omega arith) ∙ c.deref-first-items.ensures.value) ∙ keys in
    gives_set (project_rows columns self) c.loop-first.rows.items made (keys_few columns self c.loop-first.rows.items made c.rows.ensures.set)
