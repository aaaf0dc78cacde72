use Rattle.std.proofs.Common.{◌≡◌, ◌+◌, ◌≤◌, ◌++◌, ◌∷◌, ◌∙◌, [], length, ap, arith, rules}
use Rattle.std.proofs.lemmas.List.{length-append}
use Rattle.blz_set.specs.Code.Blocks.{rows_before}
use Rattle.blz_set.proofs.BlockLemmas.{rows_before-push, rows_before-none, whole_on, has_room, all_on}
use Rattle.blz_set.proofs.merge.put_back.Goals as goal

pub loop-preserved : goal.loop-preserved
loop-preserved c =
    let blocks = c.take_last-rest.new.self.items in
    let block = c.take_last-rest.result in
    let taken = ap rows_before c.take_last-rest.ensures.items ∙ rows_before-push blocks block in
    let room = has_room c.loop.rows.items block.rest.items (rows_before blocks) (rows_before c.loop.blocks.items) _ _ taken c.loop.invariant.whole c.requires in
    let ok = c.append.ensures.succeeds (omega (arith, room, c.loop.invariant.room)) in
    let e = c.append.ensures.items in
    record {
      whole = whole_on c.loop.rows.items c.append.new.self.items block.rest.items (rows_before blocks) (rows_before c.loop.blocks.items) _ (search rules) taken c.loop.invariant.whole;
      left = omega (arith, c.loop.invariant.left, ap length c.take_last-rest.ensures.items, length-append blocks (block ∷ []));
      room = omega (arith, c.loop.invariant.room, c.append.ensures.capacity);
    }

pub returns : goal.returns
returns c = all_on c.loop.rows.items (rows_before c.loop.blocks.items) _ (rows_before-none c.loop.blocks.items (omega (arith, c.loop.invariant.left))) c.loop.invariant.whole
