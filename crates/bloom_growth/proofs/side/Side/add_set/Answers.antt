use Rattle.std.proofs.Common.{List, Option, Ok, Some, subst}
use Rattle.blz_value.specs.Record.{Row}
use Rattle.blz_value.specs.Sets.{IsRowSet}
use Rattle.bloom_growth.specs.Code.Sides.{AddsSetAt}
use Rattle.bloom_growth.proofs.MergedLemmas.{set_first}
use Rattle.bloom_growth.proofs.side.Side.add_set.Goals as goal

pub returns-in_ok-insert-clause-rows : goal.returns-in_ok-insert-clause-rows
returns-in_ok-insert-clause-rows c =
    let key = c.args.key in
    let set = c.args.set in
    let old = c.args.self.now.sets in
    let middle = c.add_set_at.new.sets in
    let back : AddsSetAt key set old middle (Ok (Some c.in-Some.set)) = subst (λ (left : Option (List Row)). AddsSetAt key set old middle (Ok left)) c.in-Some.is c.in_ok-set.ensures in
    set_first key set c.in-Some.set old middle c.insert.new.self (subst IsRowSet back.2 c.rows-rows.ensures.set.sorted) back c.in_ok-insert.ensures.updates.0
