use Rattle.std.proofs.Common.{◌≡◌, ◌∙◌, ap, rules}
use Rattle.std.specs.Ordering.{min_by_ordering}
use Rattle.std.proofs.lemmas.Iterator.{YieldsList-from_slice, YieldsList-from_map_by}
use Rattle.std.proofs.lemmas.Iterator.Consumers.{reduce_by_from_yields_List}
use Rattle.blz_value.specs.Value.{value_cmp}
use Rattle.blz_value.specs.Test.{cell}
use Rattle.blz_set.specs.declared.value_ref.ValueRef.{ValueRef}
use Rattle.blz_set.specs.declared.entry.Entry.{Entry}
use Rattle.blz_set.specs.Code.ValueRef.{value_of}
use Rattle.blz_set.specs.Code.Entry.{row_of}
use Rattle.blz_set.proofs.Aggregates.{lesser, value_of-lesser, least_picked}
use Rattle.blz_set.proofs.group.least_of.Goals as goal

pub returns : goal.returns
returns c =
    ap value_of c.unwrap_or.ensures
    ∙ least_picked c.args.column c.args.rows.now c.min.result
    (reduce_by_from_yields_List (λ (p q : ValueRef). min_by_ordering (value_cmp (value_of p) (value_of q)) p q) lesser c.map.result c.min.result value_of-lesser c.min.ensures.ran
    (YieldsList-from_map_by _ value_of (λ (entry : Entry). cell (row_of entry) c.args.column) (YieldsList-from_slice c.args.rows.now cc) c.map.ensures.closure (λ x r q k. search rules)))
