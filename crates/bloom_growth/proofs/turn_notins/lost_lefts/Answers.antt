use Rattle.std.proofs.Common.{◌≡◌, ◌∙◌, ◌++◌, ℕ, List, sym, ap, subst}
use Rattle.blz_value.specs.Operators.{notin_rows}
use Rattle.blz_value.specs.Record.{Row}
use Rattle.blz_value.specs.Sets.{set_of, IsRowSet}
use Rattle.blz_set.specs.Answers.{Gives}
use Rattle.blz_set.specs.Missing.{missing_from}
use Rattle.blz_set.specs.Pairs.{lefts_of}
use Rattle.bloom_growth.specs.ByKey.{AreByKey}
use Rattle.bloom_growth.specs.Code.NotIns.{free_rows, freed_rows}
use Rattle.bloom_growth.proofs.TurnNotIns.{free_is, always}
use Rattle.bloom_growth.proofs.turn_notins.lost_lefts.Goals as goal

pub returns-clause-rows : goal.returns-clause-rows
returns-clause-rows g c = λ lo ro sorted own side other.
    let pairs = c.args.pairs.now in
    let lg = c.args.left.now in
    let rm = c.args.right.now in
    let kept = missing_from lg lo in
    let rights = (g.R.RowsByKey.kept c.args.rights.now).sets in
    let lefts = c.shrink.new.self.sets in
    let stayed : AreByKey (lefts_of pairs) kept lefts = subst (λ (cs : List ℕ). AreByKey cs kept lefts) own (c.in_ok-shrink.ensures.rows lo sorted (subst (λ (cs : List ℕ). AreByKey cs lo c.args.lefts.now.sets) (sym own) side)) in
    let first : c.push_unmatched.new.rows.items ≡ notin_rows pairs lg ro = c.in_ok-push_unmatched.ensures ro other ∙ ap (λ (l : List Row). l ++ notin_rows pairs lg ro) c.new-rows.ensures.items in
    let all : c.push_freed.new.rows.items ≡ notin_rows pairs lg ro ++ freed_rows pairs kept ro rm =
    c.in_ok-push_freed.ensures ∙ ap (λ (l : List Row). l ++ free_rows pairs lefts rights rm) first ∙ ap (λ (l : List Row). notin_rows pairs lg ro ++ l) (free_is pairs kept ro rm lefts rights stayed other) in
    subst (λ (l : List Row). Gives (set_of l) c.from_rows.result) all c.from_rows.ensures

pub returns-clause-left_side : goal.returns-clause-left_side
returns-clause-left_side g c =
    let columns = lefts_of c.args.pairs.now in
    let lg = c.args.left.now in
    let before = c.args.lefts.now in
    let after = c.shrink.new.self.sets in
    always ((lo : List Row) → IsRowSet lo → before.columns.items ≡ columns → AreByKey columns lo before.sets → AreByKey columns (missing_from lg lo) after) c.from_rows.result (λ lo sorted own side.
    subst (λ (cs : List ℕ). AreByKey cs (missing_from lg lo) after) own (c.in_ok-shrink.ensures.rows lo sorted (subst (λ (cs : List ℕ). AreByKey cs lo before.sets) (sym own) side)))
