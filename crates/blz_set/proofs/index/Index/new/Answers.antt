use Rattle.std.proofs.Common.{◌≡◌, ◌∙◌, arith, rules, take_all}
use Rattle.std.specs.Ordering.{is_lt}
use Rattle.std.proofs.lemmas.List.Sorted.{ranks_by, All-permutation}
use Rattle.blz_value.specs.Record.{record_cmp}
use Rattle.blz_value.specs.RecordOrder.{record_cmp_total}
use Rattle.blz_value.specs.Operators.{cells}
use Rattle.blz_set.specs.declared.entry.Entry.{Entry}
use Rattle.blz_set.specs.Code.Entry.{row_of, entry_key}
use Rattle.blz_set.specs.Code.Index.{HaveKeys}
use Rattle.blz_set.proofs.Runs.{order_of_keys, sorted_runs, compares}
use Rattle.blz_set.proofs.index.Index.new.Goals as goal

pub invariant_of-result : goal.invariant_of-result
invariant_of-result c =
    let columns = c.args.columns.now in
    let key = entry_key columns in
    let keys = All-permutation (λ (entry : Entry). entry_key columns entry ≡ cells columns (row_of entry)) c.loop-row.entries.items c.sort_by.new.self.items c.sort_by.ensures.permutation c.loop-row.invariant.keys in
    record { have_keys = keys; in_order = order_of_keys columns c.sort_by.new.self.items keys (c.in_ok-sort_by.ensures.sorted (λ x y. is_lt (record_cmp (key x) (key y))) (ranks_by record_cmp_total key) (compares key (λ a r q k. search rules))) }

pub returns-clause-rows : goal.returns-clause-rows
returns-clause-rows c =
    let columns = c.args.columns.now in
    let key = entry_key columns in
    let keys = All-permutation (λ (entry : Entry). entry_key columns entry ≡ cells columns (row_of entry)) c.loop-row.entries.items c.sort_by.new.self.items c.sort_by.ensures.permutation c.loop-row.invariant.keys in
    sorted_runs columns c.args.rows.now c.loop-row.entries.items c.sort_by.new.self.items c.loop-row.invariant.keys keys (c.loop-row.invariant.rows ∙ take_all c.loop-row.row-index c.args.rows.now (omega arith))
    (c.sort_by.ensures.stable (λ x y. is_lt (record_cmp (key x) (key y))) (ranks_by record_cmp_total key) (compares key (λ a r q k. search rules)))
