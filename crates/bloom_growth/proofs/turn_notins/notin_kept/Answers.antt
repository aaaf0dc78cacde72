use Rattle.std.proofs.Common.{◌≡◌, ◌∙◌, ◌++◌, List, ap, subst}
use Rattle.blz_value.specs.Operators.{notin_rows}
use Rattle.blz_value.specs.Record.{Row}
use Rattle.blz_value.specs.Sets.{set_of}
use Rattle.blz_set.specs.Answers.{Gives}
use Rattle.blz_set.specs.Pairs.{rights_of}
use Rattle.bloom_growth.proofs.turn_notins.notin_kept.Goals as goal

pub returns-clause-rows : goal.returns-clause-rows
returns-clause-rows g c = λ old new t.
    let pairs = c.args.pairs.now in
    let left = c.args.left.now in
    let kept = c.in_ok-turn_part.ensures.rows (rights_of pairs) old new t in
    let all : c.push_unmatched.new.rows.items ≡ notin_rows pairs left new = c.in_ok-push_unmatched.ensures new kept.by_key ∙ ap (λ (l : List Row). l ++ notin_rows pairs left new) c.new-rows.ensures.items in
    subst (λ (l : List Row). Gives (set_of l) c.from_rows.result) all c.from_rows.ensures
