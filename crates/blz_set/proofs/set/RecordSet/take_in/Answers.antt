use Rattle.std.proofs.Common.{◌≡◌, ◌≤◌, ◌++◌, ◌∙◌, List, true, sym, subst, ap, length, rules}
use Rattle.blz_value.specs.Record.{Row}
use Rattle.blz_value.specs.Sets.{set_of}
use Rattle.blz_set.specs.RecordSet.{row_limit}
use Rattle.blz_set.proofs.RecordSets.{set_is_set}
use Rattle.blz_set.proofs.set.RecordSet.take_in.Goals as goal

pub invariant_of-self-2 : goal.invariant_of-self-2
invariant_of-self-2 c =
    let yes : c.in_ok-has_room.field-0 ≡ true = search rules in
    let room = c.in_ok-has_room.ensures.room.0 yes in
    let same : set_of (c.self.inside.rows.items ++ c.other.inside.rows.items) ≡ set_of (c.args.self.now ++ c.args.other) =
    ap (λ (l : List Row). set_of (l ++ c.other.inside.rows.items)) c.self.view_is ∙ ap (λ (l : List Row). set_of (c.args.self.now ++ l)) c.other.view_is in
    let made = c.in_ok-merge_in.ensures.ok ∙ same in
    set_is_set (c.args.self.now ++ c.args.other) c.merge_in.new.rows.items made (subst (λ (l : List Row). length l ≤ row_limit) (sym made) room)
