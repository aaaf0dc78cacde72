use Rattle.std.proofs.Common.{◌≡◌, ◌∙◌, ◌<◌, ◌≤◌, false, not, List, length, Ok, sym, ap, subst, arith}
use Rattle.std.specs.Ordering.{eq_by_cmp}
use Rattle.std.proofs.lemmas.Bool.{true≢false}
use Rattle.indexmap.specs.IndexSet.{insert_key}
use Rattle.blz_value.specs.Record.{Row, record_cmp}
use Rattle.blz_value.specs.Sets.{set_of}
use Rattle.blz_set.specs.Missing.{has_row}
use Rattle.blz_set.specs.RecordSet.{row_limit}
use Rattle.bloom_growth.specs.Growth.{IsRowOrder, TakesRow}
use Rattle.bloom_growth.proofs.GrowOne.{has_same, puts, row_over}
use Rattle.bloom_growth.proofs.grow_set.GrowSet.take_one.Goals as goal
use Rattle.bloom_growth.proofs.grow_set.GrowSet.take_one.Goals.{else-len-ge-ROW_LIMIT-via-then-len-ge-ROW_LIMIT+else-not-contains, else-len-ge-ROW_LIMIT-via-else-len-ge-ROW_LIMIT}

pub returns-then-not-contains : goal.returns-then-not-contains
returns-then-not-contains c =
    let keys = c.self.inside.rows.keys in
    let row = c.args.row.now in
    let lacks : has_row c.args.self.now row ≡ false = ap (λ (l : List Row). has_row l row) (sym c.self.view_is) ∙ has_same keys c.self.invariant row ∙ sym c.contains.ensures ∙ c.if-not-contains.true in
    let full : row_limit ≤ length c.args.self.now = omega (arith, c.if-len-ge-ROW_LIMIT.true, c.len.ensures.len, c.self.invariant.once, ap (length {A = Row}) c.self.view_is) in
    row_over c.args.self.now row c.known.ensures lacks full

-- what the row makes of the rows
made : (c : goal.In_ok-insert) → IsRowOrder c.insert.new.self.keys × TakesRow (set_of c.self.inside.rows.keys) c.args.row.now (set_of c.insert.new.self.keys) (Ok c.in_ok-insert.field-0)
made c =
    let keys = c.self.inside.rows.keys in
    let row = c.args.row.now in
    let room : has_row keys row ≡ false → length keys < row_limit = λ lacks.
    elim c.else-len-ge-ROW_LIMIT.branch [
      | else-len-ge-ROW_LIMIT-via-then-len-ge-ROW_LIMIT+else-not-contains w ↦ absurd (true≢false (sym w.if-not-contains.false ∙ w.contains.ensures ∙ lacks))
      | else-len-ge-ROW_LIMIT-via-else-len-ge-ROW_LIMIT w ↦ omega (arith, w.if-len-ge-ROW_LIMIT.false, c.len.ensures.len)
    ] in
    puts keys c.self.invariant row c.insert.new.self.keys c.in_ok-insert.field-0
    (c.in_ok-insert.ensures.keys ∙ ap (insert_key (eq_by_cmp record_cmp) keys) c.in_ok-copy.ensures)
    (c.in_ok-insert.ensures.added ∙ ap (λ (r : Row). not (has_row keys r)) c.in_ok-copy.ensures) room

pub invariant_of-self-2 : goal.invariant_of-self-2
invariant_of-self-2 c = (made c).0

pub returns : goal.returns
returns c = subst (λ (l : List Row). TakesRow l c.args.row.now (set_of c.insert.new.self.keys) (Ok c.in_ok-insert.field-0)) c.self.view_is (made c).1
