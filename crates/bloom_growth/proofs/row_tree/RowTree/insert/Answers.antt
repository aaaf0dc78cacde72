use Rattle.std.proofs.Common.{◌∙◌, List, ap, sym, subst}
use Rattle.std.specs.BTreeSet.{insert_key}
use Rattle.blz_value.specs.Record.{Row, record_cmp}
use Rattle.blz_value.specs.Sets.{IsRowSet}
use Rattle.blz_value.proofs.RowSets.{set_of-sorted}
use Rattle.bloom_growth.proofs.row_tree.RowTree.insert.Goals as goal

pub returns-clause-rows : goal.returns-clause-rows
returns-clause-rows c =
    let sorted : IsRowSet c.args.self.now = subst IsRowSet c.self.view_is c.self.invariant in
    c.in_ok-insert.ensures.keys ∙ ap (λ (l : List Row). insert_key record_cmp l c.args.row) (c.self.view_is ∙ sym (set_of-sorted c.args.self.now sorted))
