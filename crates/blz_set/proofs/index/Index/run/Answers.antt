use Rattle.std.proofs.Common.{◌≡◌, ◌∙◌, ap, sym, arith, rules, length, drop, true, List}
use Rattle.std.specs.Ordering.{is_ne}
use Rattle.blz_value.specs.Record.{record_cmp}
use Rattle.blz_value.specs.Operators.{cells}
use Rattle.blz_set.specs.declared.entry.Entry.{Entry}
use Rattle.blz_set.specs.Code.Entry.{row_of, rows_of, entry_key}
use Rattle.blz_set.proofs.Runs.{compared, keys_from, run_to, run_all}
use Rattle.blz_set.proofs.index.Index.run.Goals as goal

pub returns-then-is_ne : goal.returns-then-is_ne
returns-then-is_ne c =
    let index = c.args.self.now in
    let columns = index.columns.now in
    let key = cells c.args.row_columns.now c.args.row.now in
    let rest = c.split_at.result.1.now in
    let entry = c.index-rest-i.result in
    let is_rest = c.split_at.ensures.back ∙ ap (λ (l : List Entry). drop c.start.result l) c.as_slice.ensures.value in
    let order = compared columns rest (keys_from columns index.entries.items rest c.start.result index.have_keys is_rest) c.loop-i.i entry (omega arith) c.index-rest-i.is key (entry_key c.args.row_columns.now c.new-wanted.result) c.new-wanted.ensures.key c.compare.result c.compare.ensures in
    let differs : is_ne c.compare.result ≡ true = search rules in
    ap rows_of c.split_at-then-is_ne.ensures.front
    ∙ run_to columns key index.entries.items index.in_order c.start.result c.start.ensures.start rest is_rest (omega (arith, c.split_at.ensures.back_len, ap length c.as_slice.ensures.value)) c.loop-i.i entry c.loop-i.invariant (omega arith) c.index-rest-i.is (ap is_ne (sym order) ∙ differs)

pub returns : goal.returns
returns c =
    let index = c.args.self.now in
    let key = cells c.args.row_columns.now c.args.row.now in
    run_all index.columns.now key index.entries.items index.in_order c.start.result c.start.ensures.start c.split_at.result.1.now (c.split_at.ensures.back ∙ ap (λ (l : List Entry). drop c.start.result l) c.as_slice.ensures.value) c.loop-i.i (omega arith) c.loop-i.invariant
