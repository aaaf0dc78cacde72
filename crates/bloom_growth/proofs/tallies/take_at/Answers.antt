use Rattle.std.proofs.Common.{◌≡◌, ◌↔◌, ◌∷◌, Bool, IsTrue, List, length, rules}
use Rattle.blz_value.specs.Record.{Row}
use Rattle.bloom_growth.specs.Tallies.{IsTally}
use Rattle.bloom_growth.specs.Code.Tallies.{LeavesAt}
use Rattle.bloom_growth.proofs.TurningLemmas.{both_ok, left_at}
use Rattle.bloom_growth.proofs.tallies.take_at.Goals as goal

pub returns-in-Some : goal.returns-in-Some
returns-in-Some c =
    let agg = c.args.agg in
    let key = c.args.key.now in
    let row = c.args.row.now in
    let old = c.args.tallies.now in
    let tally = c.in-Some.tally.now in
    let next = c.take.new.self in
    let new = c.get_mut.follows.lender next in
    both_ok c.take.result (λ (last : Bool). (rows : List Row) → IsTally agg (row ∷ rows) tally → IsTrue last ↔ (length rows ≡ 0)) (λ (last : Bool). LeavesAt last agg key row old new) c.take.ensures.tally c.take.ensures.last
    (λ last step ends. left_at agg key row old new last tally next c.in-Some.ensures.value ((c.get_mut.follows.holds next).3 (search rules)).0 step ends)
