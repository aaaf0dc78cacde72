use Rattle.std.proofs.Common.{List, Ok, refl, subst}
use Rattle.blz_value.specs.Operators.{join_rows}
use Rattle.blz_value.specs.Record.{Row}
use Rattle.blz_value.specs.Sets.{set_of}
use Rattle.blz_set.specs.Growth.{Grows}
use Rattle.blz_set.specs.Pairs.{rights_of}
use Rattle.bloom_growth.proofs.FreshJoins.{gives_made}
use Rattle.bloom_growth.proofs.turn_joins.join_kept_right.Goals as goal

pub returns-clause-rows : goal.returns-clause-rows
returns-clause-rows g c = λ old new t.
    let pairs = c.args.pairs.now in
    let left = c.args.left.now in
    let kept = c.in_ok-turn_part.ensures.rows (rights_of pairs) old new t in
    gives_made (join_rows pairs left new) (set_of (join_rows pairs left new)) c.join_to_right.new.set refl
    (subst (λ (l : List Row). Grows {X = Unit {0}} l (join_rows pairs left new) c.join_to_right.new.set (Ok tt)) c.new-set.ensures (c.in_ok-join_to_right.ensures new kept.by_key))
