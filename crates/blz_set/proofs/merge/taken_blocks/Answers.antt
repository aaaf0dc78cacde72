use Rattle.std.proofs.Common.{◌≡◌, ℕ, List, ◌+◌, ◌≤◌, ◌++◌, ◌∷◌, ◌∙◌, [], true, is_ok, length, take, drop, vec_capacity, append-nil, sym, ap, subst, refl, arith, rules}
use Rattle.std.proofs.lemmas.List.{length-append, take-append-drop}
use Rattle.std.specs.List.{insert}
use Rattle.blz_value.specs.Record.{Row}
use Rattle.blz_value.specs.Sets.{set_of, IsRowSet}
use Rattle.blz_set.specs.Missing.{has_row}
use Rattle.blz_set.specs.declared.merge.Block.{Block}
use Rattle.blz_set.specs.Code.Blocks.{rows_before, rows_after}
use Rattle.blz_set.proofs.RecordSets.{Has-from_has_row}
use Rattle.blz_set.proofs.MergeLemmas.{sorted_parts, sorted_before}
use Rattle.blz_set.proofs.BlockLemmas.{rows_before-push, rows_before-none, rows_after-push, rows_after-none, before_on, after_on, there_on, after_all}
use Rattle.blz_set.proofs.merge.taken_blocks.Goals as goal
use Rattle.blz_set.proofs.merge.taken_blocks.Goals.{in-Err+in-Ok, in_default}

pub loop-init : goal.loop-init
loop-init c =
    let none = ap length c.in_ok-blocks.ensures.items in
    record {
      rows = c.requires.rows;
      more = c.requires.more;
      before = ap (λ (l : List Row). c.args.rows.now.items ++ l) (rows_before-none c.in_ok-blocks.blocks.items none) ∙ append-nil _;
      whole = ap (λ (l : List Row). set_of (c.args.rows.now.items ++ c.args.more.now.items) ++ l) (rows_after-none c.in_ok-blocks.blocks.items none) ∙ append-nil _;
      left = omega arith;
      few = omega (arith, none, c.in_ok-blocks.ensures.capacity);
      room = refl;
    }

pub loop-preserved : goal.loop-preserved
loop-preserved c =
    let rows = c.loop.rows.items in
    let blocks = c.loop.blocks.items in
    let more = c.take_last-first.new.self.items in
    let x = c.take_last-first.result in
    let taken : c.loop.more.items ≡ more ++ x ∷ [] = c.take_last-first.ensures.items in
    let fewer = ap length taken ∙ length-append more (x ∷ []) in
    let more_sorted = (sorted_parts more (x ∷ []) (subst IsRowSet taken c.loop.invariant.more)).0 in
    let same : c.as_slice.result.now ≡ rows = c.as_slice.ensures.value in
    elim c.match-place.branch [
      | in-Err+in-Ok w ↦
          let at = w.in-Err.at in
          let block : Block = record { first = x; rest = w.in-Ok.rest } in
          let now = ap (λ v. v.items) w.blocks-is ∙ w.push_reserved.ensures.items in
          let gap : insert rows at x ≡ set_of (x ∷ rows) = subst (λ (l : List Row). insert l at x ≡ set_of (x ∷ l)) same w.in-Err.ensures.gap in
          let left = ap (λ v. v.items) w.rows-is ∙ w.in-Ok.ensures.items in
          let tail = w.in-Ok.ensures.tail in
          record {
            rows = subst IsRowSet (sym left) (sorted_before rows more x at c.loop.invariant.rows);
            more = more_sorted;
            before = before_on rows c.match-place.rows.items w.in-Ok.rest.items (rows_before blocks) (rows_before c.match-place.blocks.items) _ (sym (take-append-drop at rows) ∙ ap (λ (l : List Row). l ++ drop at rows) (sym left) ∙ ap (λ (l : List Row). c.match-place.rows.items ++ l) (sym tail)) (ap rows_before now ∙ rows_before-push blocks block) c.loop.invariant.before;
            whole = after_on rows more c.loop.more.items (rows_after blocks) _ x taken c.loop.invariant.whole at c.loop.invariant.more gap c.match-place.rows.items (rows_after c.match-place.blocks.items) left (ap rows_after now ∙ rows_after-push blocks block ∙ ap (λ (l : List Row). (x ∷ l) ++ rows_after blocks) tail);
            left = omega (arith, c.loop.invariant.left, fewer);
            few = omega (arith, c.loop.invariant.few, fewer, ap length now, length-append blocks (block ∷ []), ap vec_capacity w.blocks-is, w.push_reserved.ensures.capacity);
            room = ap vec_capacity w.rows-is ∙ w.split_off.ensures.capacity ∙ c.loop.invariant.room;
          }
      | in_default w ↦
          let held : has_row rows x ≡ true = ap (λ (l : List Row). has_row l x) (sym same) ∙ sym c.place.ensures.test ∙ search rules in
          let rows_same = ap (λ v. v.items) w.rows-is in
          let kept = ap (λ v. v.items) w.blocks-is in
          record {
            rows = subst IsRowSet (sym rows_same) c.loop.invariant.rows;
            more = more_sorted;
            before = ap (λ (l : List Row). l ++ rows_before c.match-place.blocks.items) rows_same ∙ ap (λ l. rows ++ rows_before l) kept ∙ c.loop.invariant.before;
            whole = ap (λ (l : List Row). set_of (l ++ more) ++ rows_after c.match-place.blocks.items) rows_same ∙ ap (λ l. set_of (rows ++ more) ++ rows_after l) kept
                ∙ there_on rows more c.loop.more.items (rows_after blocks) _ x taken c.loop.invariant.whole (Has-from_has_row rows x held);
            left = omega (arith, c.loop.invariant.left, fewer);
            few = omega (arith, c.loop.invariant.few, fewer, ap length kept, ap vec_capacity w.blocks-is);
            room = ap vec_capacity w.rows-is ∙ c.loop.invariant.room;
          }
    ]

pub returns-clause-ok : goal.returns-clause-ok
returns-clause-ok c = after_all c.loop.rows.items c.loop.more.items (rows_after c.loop.blocks.items) _ (omega (arith, c.loop.invariant.left)) c.loop.invariant.rows c.loop.invariant.whole
