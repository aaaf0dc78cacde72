use Rattle.std.proofs.Common.{◌≡◌, ◌∙◌, ◌++◌, ℕ, List, sym, ap, subst}
use Rattle.blz_value.specs.Operators.{notin_rows}
use Rattle.blz_value.specs.Record.{Row}
use Rattle.blz_value.specs.Sets.{set_of, IsRowSet}
use Rattle.blz_set.specs.Answers.{Gives}
use Rattle.blz_set.specs.Pairs.{lefts_of}
use Rattle.bloom_growth.specs.ByKey.{AreByKey}
use Rattle.bloom_growth.specs.Code.NotIns.{free_rows, freed_rows}
use Rattle.bloom_growth.proofs.TurnNotIns.{free_is, always}
use Rattle.bloom_growth.proofs.turn_notins.gained_lefts.Goals as goal

pub returns-clause-rows : goal.returns-clause-rows
returns-clause-rows g c = λ lk rn side other.
    let pairs = c.args.pairs.now in
    let lm = c.args.left.now in
    let rg = c.args.right.now in
    let rights = (g.R.RowsByKey.kept c.args.rights.now).sets in
    let lefts = c.args.lefts.now.sets in
    let first : c.push_freed.new.rows.items ≡ freed_rows pairs lk rn rg =
    c.in_ok-push_freed.ensures ∙ ap (λ (l : List Row). l ++ free_rows pairs lefts rights rg) c.new-rows.ensures.items ∙ free_is pairs lk rn rg lefts rights side other in
    let all : c.push_unmatched.new.rows.items ≡ freed_rows pairs lk rn rg ++ notin_rows pairs lm rn = c.in_ok-push_unmatched.ensures rn other ∙ ap (λ (l : List Row). l ++ notin_rows pairs lm rn) first in
    subst (λ (l : List Row). Gives (set_of l) c.from_rows.result) all c.from_rows.ensures

pub returns-clause-left_side : goal.returns-clause-left_side
returns-clause-left_side g c =
    let columns = lefts_of c.args.pairs.now in
    let lm = c.args.left.now in
    let before = c.args.lefts.now in
    let after = c.grow.new.self.sets in
    always ((lk : List Row) → IsRowSet lk → before.columns.items ≡ columns → AreByKey columns lk before.sets → AreByKey columns (set_of (lk ++ lm)) after) c.from_rows.result (λ lk sorted own side.
    subst (λ (cs : List ℕ). AreByKey cs (set_of (lk ++ lm)) after) own (c.in_ok-grow.ensures.rows lk sorted (subst (λ (cs : List ℕ). AreByKey cs lk before.sets) (sym own) side)))
