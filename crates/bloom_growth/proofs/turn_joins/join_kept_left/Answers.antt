use Rattle.std.proofs.Common.{List, Ok, sym, subst}
use Rattle.std.specs.Prelude.{Err}
use Rattle.blz_value.specs.Operators.{join_rows}
use Rattle.blz_value.specs.Record.{Row}
use Rattle.blz_value.specs.Sets.{set_of}
use Rattle.blz_set.specs.Answers.{Gives}
use Rattle.blz_set.specs.Growth.{Grows}
use Rattle.blz_set.specs.Pairs.{lefts_of}
use Rattle.blz_set.proofs.Unions.{handed_on}
use Rattle.bloom_growth.specs.Code.Joins.{turned_rows}
use Rattle.bloom_growth.proofs.Extending.{turned_is}
use Rattle.bloom_growth.proofs.FreshJoins.{gives_grown, gives_made}
use Rattle.bloom_growth.proofs.turn_joins.join_kept_left.Goals as goal

pub returns-in_err-join_to_left-clause-rows : goal.returns-in_err-join_to_left-clause-rows
returns-in_err-join_to_left-clause-rows g c = λ old new t.
    let pairs = c.args.pairs.now in
    let right = c.args.right.now in
    let fault = c.in_err-join_to_left.field-0.0 in
    let kept = c.in_ok-turn_part.ensures.rows (lefts_of pairs) old new t in
    subst (Gives (set_of (join_rows pairs new right))) (sym (handed_on _ c.from_residual-in_err-join_to_left.result fault c.from_residual-in_err-join_to_left.ensures.1))
    (gives_grown (turned_rows pairs new right) (set_of (join_rows pairs new right)) c.join_to_left.new.set fault (turned_is pairs new right)
    (subst (λ (l : List Row). Grows {X = Unit {0}} l (turned_rows pairs new right) c.join_to_left.new.set (Err fault)) c.new-set.ensures (c.in_err-join_to_left.ensures new kept.by_key)))

pub returns-clause-rows : goal.returns-clause-rows
returns-clause-rows g c = λ old new t.
    let pairs = c.args.pairs.now in
    let right = c.args.right.now in
    let kept = c.in_ok-turn_part.ensures.rows (lefts_of pairs) old new t in
    gives_made (turned_rows pairs new right) (set_of (join_rows pairs new right)) c.join_to_left.new.set (turned_is pairs new right)
    (subst (λ (l : List Row). Grows {X = Unit {0}} l (turned_rows pairs new right) c.join_to_left.new.set (Ok tt)) c.new-set.ensures (c.in_ok-join_to_left.ensures new kept.by_key))
