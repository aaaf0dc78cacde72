use Rattle.std.proofs.Common.{◌≡◌, Bool, true, subst, rules}
use Rattle.bloom_growth.specs.Code.Tallies.{LeavesAt}
use Rattle.bloom_growth.proofs.TurningLemmas.{off_at}
use Rattle.bloom_growth.proofs.tallies.take_row.Goals as goal

pub returns-then-branch : goal.returns-then-branch
returns-then-branch c =
    let agg = c.args.agg in
    let key = c.args.key.now in
    let row = c.args.row.now in
    let old = c.args.tallies.now in
    let middle = c.take_at.new.tallies in
    let yes : c.in_ok-take_at.field-0 ≡ true = search rules in
    off_at agg key row old middle c.swap_remove.new.self (subst (λ (last : Bool). LeavesAt last agg key row old middle) yes c.in_ok-take_at.ensures) c.swap_remove.ensures.updates.0
