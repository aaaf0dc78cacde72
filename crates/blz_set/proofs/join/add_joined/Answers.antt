use Rattle.std.proofs.Common.{Bool, ◌<◌, ◌≤◌, ◌≡◌, ◌+◌, ◌∙◌, ◌++◌, [], ◌∷◌, sym, ap, subst, arith, length, take, drop, map, List}
use Rattle.std.proofs.lemmas.List.{append-nil}
use Rattle.blz_value.specs.Record.{Row}
use Rattle.blz_value.specs.Sets.{set_of}
use Rattle.blz_value.specs.Operators.{joined}
use Rattle.blz_value.proofs.RowSets.{set_of-sorted}
use Rattle.blz_set.specs.RecordSet.{row_limit}
use Rattle.blz_set.specs.declared.entry.Entry.{Entry}
use Rattle.blz_set.specs.Code.Entry.{row_of, rows_of}
use Rattle.blz_set.specs.Growth.{Grows}
use Rattle.blz_set.proofs.Unions.{handed_on}
use Rattle.blz_set.proofs.Joins.{joined_more, joined_split, grown_once, too_many_grown, grows_from_insert}
use Rattle.blz_set.proofs.join.add_joined.Goals as goal

pub loop-right-init : goal.loop-right-init
loop-right-init c = record { added = sym (ap set_of (append-nil c.args.set.now) ∙ set_of-sorted c.args.set.now c.requires.sorted); small = c.requires.small }

pub returns-in_err-insert : goal.returns-in_err-insert
returns-in_err-insert c =
    let pairs = c.args.pairs.now in
    let left = c.args.left.now in
    let refs = c.args.rights.now in
    let i = c.loop-right.right-index in
    let rows = map (joined pairs left) (rows_of refs) in
    let now = map (joined pairs left) (rows_of (take (i + 1) refs)) in
    let grown = grown_once c.args.set.now (map (joined pairs left) (rows_of (take i refs))) now c.loop-right.set c.in_ok-joined_row.field-0 c.loop-right.invariant.added (joined_more pairs left refs i c.right-item.result (omega arith) c.right-item.is ∙ ap (λ row. map (joined pairs left) (rows_of (take i refs)) ++ row ∷ []) (sym (c.in_ok-joined_row.ensures ∙ ap (joined pairs left) c.row.ensures))) in
    subst (Grows c.args.set.now rows c.insert.new.self) (sym (handed_on _ c.from_residual-in_err-insert.result c.in_err-insert.field-0.0 c.from_residual-in_err-insert.ensures.1))
    (grows_from_insert Bool (Unit {0}) c.loop-right.set (set_of (c.in_ok-joined_row.field-0 ∷ c.loop-right.set)) c.args.set.now rows c.insert.new.self c.in_err-insert.field-0.0 c.in_err-insert.ensures.rows
    (λ over. too_many_grown c.args.set.now rows now (map (joined pairs left) (rows_of (drop (i + 1) refs))) (joined_split pairs left (i + 1) refs) (subst (λ (l : List Row). row_limit < length l) grown over)))

pub loop-right-preserved : goal.loop-right-preserved
loop-right-preserved c =
    let pairs = c.args.pairs.now in
    let left = c.args.left.now in
    let refs = c.args.rights.now in
    let i = c.loop-right.right-index in
    let now = map (joined pairs left) (rows_of (take (i + 1) refs)) in
    let grown = grown_once c.args.set.now (map (joined pairs left) (rows_of (take i refs))) now c.loop-right.set c.in_ok-joined_row.field-0 c.loop-right.invariant.added (joined_more pairs left refs i c.right-item.result (omega arith) c.right-item.is ∙ ap (λ row. map (joined pairs left) (rows_of (take i refs)) ++ row ∷ []) (sym (c.in_ok-joined_row.ensures ∙ ap (joined pairs left) c.row.ensures))) in
    record { added = c.in_ok-insert.ensures.rows.0 ∙ grown; small = subst (λ (l : List Row). length l ≤ row_limit) (sym c.in_ok-insert.ensures.rows.0) c.in_ok-insert.ensures.rows.1 }
