use Rattle.std.proofs.Common.{◌∙◌, List, ◌++◌, sym, ap, subst}
use Rattle.std.specs.Prelude.{Err}
use Rattle.blz_value.specs.Operators.{join_rows}
use Rattle.blz_value.specs.Record.{Row}
use Rattle.blz_value.specs.Sets.{set_of}
use Rattle.blz_set.specs.Growth.{Grows}
use Rattle.blz_set.specs.Missing.{missing_from}
use Rattle.blz_set.specs.Pairs.{rights_of}
use Rattle.blz_set.proofs.Unions.{handed_on}
use Rattle.bloom_growth.specs.Code.Joins.{turned_rows, MakesLost}
use Rattle.bloom_growth.proofs.TurnedLemmas.{went}
use Rattle.bloom_growth.proofs.TurnJoins.{part_shrunk, lost_first_fault, lost_second_fault}
use Rattle.bloom_growth.proofs.turn_joins.lost_pairs.Goals as goal

pub returns-in_err-join_to_left-clause-rows : goal.returns-in_err-join_to_left-clause-rows
returns-in_err-join_to_left-clause-rows g c = λ lo ln lm ro rn rm gl gr.
    let pairs = c.args.pairs.now in
    let lg = c.args.left.now in
    let rg = c.args.right.now in
    let fault = c.in_err-join_to_left.field-0.0 in
    subst (MakesLost pairs lo lg ro rg) (sym (handed_on _ c.from_residual-in_err-join_to_left.result fault c.from_residual-in_err-join_to_left.ensures.1))
    (lost_first_fault pairs lo lg ro rg (λ q h. (went lo ln lm lg gl.turned q h).0) (λ q h. (went ro rn rm rg gr.turned q h).0) c.join_to_left.new.set fault
    (subst (λ (l : List Row). Grows {X = Unit {0}} l (turned_rows pairs lo rg) c.join_to_left.new.set (Err fault)) c.new-set.ensures (c.in_err-join_to_left.ensures lo gl.kept_is.by_key)))

pub returns-in_err-join_to_right-clause-rows : goal.returns-in_err-join_to_right-clause-rows
returns-in_err-join_to_right-clause-rows g c = λ lo ln lm ro rn rm gl gr.
    let pairs = c.args.pairs.now in
    let lg = c.args.left.now in
    let rg = c.args.right.now in
    let fault = c.in_err-join_to_right.field-0.0 in
    let first = (c.in_ok-join_to_left.ensures lo gl.kept_is.by_key).0 ∙ ap (λ (l : List Row). set_of (l ++ turned_rows pairs lo rg)) c.new-set.ensures in
    let side = part_shrunk (rights_of pairs) ro rn rm rg (g.R.RowsByKey.kept c.args.rights.now) (g.R.RowsByKey.kept c.shrink.new.self) gr c.in_ok-shrink.ensures.form c.in_ok-shrink.ensures.rows in
    subst (MakesLost pairs lo lg ro rg) (sym (handed_on _ c.from_residual-in_err-join_to_right.result fault c.from_residual-in_err-join_to_right.ensures.1))
    (lost_second_fault pairs lo lg ro rg (λ q h. (went lo ln lm lg gl.turned q h).0) (λ q h. (went ro rn rm rg gr.turned q h).0) c.join_to_left.new.set c.join_to_right.new.set fault first
    (c.in_err-join_to_right.ensures (missing_from rg ro) side.by_key))

pub returns-clause-rows : goal.returns-clause-rows
returns-clause-rows g c = λ lo ln lm ro rn rm gl gr.
    let pairs = c.args.pairs.now in
    let lg = c.args.left.now in
    let rg = c.args.right.now in
    let first = (c.in_ok-join_to_left.ensures lo gl.kept_is.by_key).0 ∙ ap (λ (l : List Row). set_of (l ++ turned_rows pairs lo rg)) c.new-set.ensures in
    let side = part_shrunk (rights_of pairs) ro rn rm rg (g.R.RowsByKey.kept c.args.rights.now) (g.R.RowsByKey.kept c.shrink.new.self) gr c.in_ok-shrink.ensures.form c.in_ok-shrink.ensures.rows in
    (c.in_ok-join_to_right.ensures (missing_from rg ro) side.by_key).0 ∙ ap (λ (l : List Row). set_of (l ++ join_rows pairs lg (missing_from rg ro))) first
