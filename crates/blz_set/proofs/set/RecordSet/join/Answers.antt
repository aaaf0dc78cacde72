use Rattle.std.proofs.Common.{◌≡◌, ◌≤◌, ◌<◌, ◌+◌, ◌∙◌, ◌++◌, [], sym, ap, subst, arith, length, take, drop, map, filter, List}
use Rattle.blz_value.specs.Record.{Row}
use Rattle.blz_value.specs.Sets.{set_of}
use Rattle.blz_value.specs.Operators.{agree, joined, join_rows}
use Rattle.blz_set.specs.RecordSet.{row_limit}
use Rattle.blz_set.specs.declared.entry.Entry.{Entry}
use Rattle.blz_set.specs.Code.Entry.{row_of, rows_of}
use Rattle.blz_set.specs.Answers.{Gives}
use Rattle.blz_set.proofs.RecordSets.{set_is_set}
use Rattle.blz_set.proofs.Unions.{handed_on}
use Rattle.blz_set.proofs.Joins.{run_agrees, grown_by, join_rows_more, join_rows_split, too_many_later, gives_from_grows}
use Rattle.blz_set.proofs.set.RecordSet.join.Goals as goal

pub add_joined-requires : goal.add_joined-requires
add_joined-requires c = set_is_set (join_rows c.args.pairs.now (take c.loop-left.left-index c.rows-left-items.result.now) c.args.other.now) c.loop-left.set c.loop-left.invariant.joined c.loop-left.invariant.small

pub returns-in_err-add_joined : goal.returns-in_err-add_joined
returns-in_err-add_joined c =
    let pairs = c.args.pairs.now in
    let others = c.args.other.now in
    let lefts = c.rows-left-items.result.now in
    let i = c.loop-left.left-index in
    let left = c.left-item.result in
    let index = c.in_ok-index.index in
    let made = map (joined pairs left) (rows_of c.run.result.now) in
    let rows = join_rows pairs c.args.self.now others in
    let now = join_rows pairs (take (i + 1) lefts) others in
    let run = run_agrees pairs left others c.rows.result.now (rows_of index.entries.items) index.columns.now c.deref.result.now c.deref-in-loop-left.result.now
    c.in_ok-index.ensures.columns (c.deref.ensures.value ∙ c.in_ok-rights.ensures) (c.deref-in-loop-left.ensures.value ∙ c.in_ok-lefts.ensures) c.in_ok-index.ensures.rows c.rows.ensures.all c.run.result.now c.run.ensures in
    let grown = grown_by (join_rows pairs (take i lefts) others) (map (joined pairs left) (filter (agree pairs left) others)) now c.loop-left.set made c.loop-left.invariant.joined run (join_rows_more pairs others lefts i left (omega arith) c.left-item.is) in
    let all = ap (λ l. join_rows pairs l others) (sym c.rows-left-items.ensures.all) ∙ join_rows_split pairs others (i + 1) lefts in
    subst (Gives (set_of rows)) (sym (handed_on _ c.from_residual-in_err-add_joined.result c.in_err-add_joined.field-0.0 c.from_residual-in_err-add_joined.ensures.1))
    (gives_from_grows (Unit {0}) c.loop-left.set made c.add_joined.new.set (set_of rows) c.in_err-add_joined.field-0.0 c.in_err-add_joined.ensures
    (λ over. too_many_later rows now (join_rows pairs (drop (i + 1) lefts) others) all (subst (λ (l : List Row). row_limit < length l) grown over)))

pub loop-left-preserved : goal.loop-left-preserved
loop-left-preserved c =
    let pairs = c.args.pairs.now in
    let others = c.args.other.now in
    let lefts = c.rows-left-items.result.now in
    let i = c.loop-left.left-index in
    let left = c.left-item.result in
    let index = c.in_ok-index.index in
    let run = run_agrees pairs left others c.rows.result.now (rows_of index.entries.items) index.columns.now c.deref.result.now c.deref-in-loop-left.result.now
    c.in_ok-index.ensures.columns (c.deref.ensures.value ∙ c.in_ok-rights.ensures) (c.deref-in-loop-left.ensures.value ∙ c.in_ok-lefts.ensures) c.in_ok-index.ensures.rows c.rows.ensures.all c.run.result.now c.run.ensures in
    let grown = grown_by (join_rows pairs (take i lefts) others) (map (joined pairs left) (filter (agree pairs left) others)) (join_rows pairs (take (i + 1) lefts) others) c.loop-left.set (map (joined pairs left) (rows_of c.run.result.now)) c.loop-left.invariant.joined run
    (join_rows_more pairs others lefts i left (omega arith) c.left-item.is) in
    record { joined = c.in_ok-add_joined.ensures.0 ∙ grown; small = c.in_ok-add_joined.ensures.1 }
