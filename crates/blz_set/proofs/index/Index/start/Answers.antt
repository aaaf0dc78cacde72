use Rattle.std.proofs.Common.{List, sym, subst, rules}
use Rattle.std.specs.Ordering.{is_lt}
use Rattle.std.proofs.lemmas.List.Sorted.{IsPartitionPoint-from_clause}
use Rattle.blz_value.specs.Record.{Row, record_cmp}
use Rattle.blz_value.specs.Operators.{cells}
use Rattle.blz_set.specs.declared.entry.Entry.{Entry}
use Rattle.blz_set.specs.Code.Entry.{entry_key}
use Rattle.blz_set.specs.Code.Index.{HaveKeys, InOrder, StartsAt}
use Rattle.blz_set.proofs.Runs.{below_parts, start_of_keys}
use Rattle.blz_set.proofs.index.Index.start.Goals as goal

pub returns-clause-start : goal.returns-clause-start
returns-clause-start c =
    let index = c.args.self.now in
    let columns = index.columns.now in
    let own = entry_key c.args.row_columns.now c.new-wanted.result in
    let entries = c.as_slice.result.now in
    let same = c.as_slice.ensures.value in
    let keys : HaveKeys columns entries = subst (HaveKeys columns) (sym same) index.have_keys in
    let order : InOrder columns entries = subst (InOrder columns) (sym same) index.in_order in
    let parts = IsPartitionPoint-from_clause (λ (entry : Entry). is_lt (record_cmp (entry_key columns entry) own)) _ _ c.partition_point.ensures.partitioned (below_parts columns own entries order keys) (λ a r q k. search rules) in
    subst (λ (l : List Entry). StartsAt columns (cells c.args.row_columns.now c.args.row.now) l c.partition_point.result) same
    (subst (λ (key : Row). StartsAt columns key entries c.partition_point.result) c.new-wanted.ensures.key (start_of_keys columns own entries order keys c.partition_point.result c.partition_point.ensures.bound parts))
