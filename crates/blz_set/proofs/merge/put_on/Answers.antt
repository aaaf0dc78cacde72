use Rattle.std.proofs.Common.{◌≡◌, ◌+◌, ◌≤◌, ◌++◌, ◌∷◌, ◌∙◌, [], length, append_assoc, ap, arith, rules}
use Rattle.std.proofs.lemmas.List.{length-append}
use Rattle.blz_set.specs.Code.Blocks.{rows_after}
use Rattle.blz_set.proofs.BlockLemmas.{rows_after-push, rows_after-none, whole_on, has_room, all_on}
use Rattle.blz_set.proofs.merge.put_on.Goals as goal

pub push_reserved-requires : goal.push_reserved-requires
push_reserved-requires c =
    let blocks = c.take_last-first.new.self.items in
    let block = c.take_last-first.result in
    let taken = ap rows_after c.take_last-first.ensures.items ∙ rows_after-push blocks block in
    omega (arith, has_room c.loop.rows.items (block.first ∷ block.rest.items) (rows_after blocks) (rows_after c.loop.blocks.items) _ _ taken c.loop.invariant.whole c.requires, c.loop.invariant.room)

pub loop-preserved : goal.loop-preserved
loop-preserved c =
    let blocks = c.take_last-first.new.self.items in
    let block = c.take_last-first.result in
    let taken = ap rows_after c.take_last-first.ensures.items ∙ rows_after-push blocks block in
    let room = has_room c.loop.rows.items (block.first ∷ block.rest.items) (rows_after blocks) (rows_after c.loop.blocks.items) _ _ taken c.loop.invariant.whole c.requires in
    let ok = c.append.ensures.succeeds (omega (arith, room, c.loop.invariant.room, c.push_reserved.ensures.capacity, ap length c.push_reserved.ensures.items, length-append c.loop.rows.items (block.first ∷ []))) in
    let e = c.append.ensures.items in
    let pushed : c.append.new.self.items ≡ c.push_reserved.new.self.items ++ block.rest.items = search rules in
    record {
      whole = whole_on c.loop.rows.items c.append.new.self.items (block.first ∷ block.rest.items) (rows_after blocks) (rows_after c.loop.blocks.items) _
          (pushed ∙ ap (λ l. l ++ block.rest.items) c.push_reserved.ensures.items ∙ append_assoc c.loop.rows.items (block.first ∷ []) block.rest.items) taken c.loop.invariant.whole;
      left = omega (arith, c.loop.invariant.left, ap length c.take_last-first.ensures.items, length-append blocks (block ∷ []));
      room = omega (arith, c.loop.invariant.room, c.push_reserved.ensures.capacity, c.append.ensures.capacity);
    }

pub returns : goal.returns
returns c = all_on c.loop.rows.items (rows_after c.loop.blocks.items) _ (rows_after-none c.loop.blocks.items (omega (arith, c.loop.invariant.left))) c.loop.invariant.whole
