use Rattle.std.proofs.Common.{◌∙◌, List, ◌++◌, sym, ap, subst}
use Rattle.std.specs.Prelude.{Err}
use Rattle.blz_value.specs.Operators.{join_rows}
use Rattle.blz_value.specs.Record.{Row}
use Rattle.blz_value.specs.Sets.{set_of}
use Rattle.blz_set.specs.Growth.{Grows}
use Rattle.blz_set.specs.Pairs.{lefts_of}
use Rattle.blz_set.proofs.Unions.{handed_on}
use Rattle.bloom_growth.specs.Code.Joins.{MakesFresh}
use Rattle.bloom_growth.proofs.FreshJoins.{first_fault, second_fault}
use Rattle.bloom_growth.proofs.TurnJoins.{part_grown}
use Rattle.bloom_growth.proofs.turn_joins.gained_pairs.Goals as goal

pub returns-in_err-join_to_right-clause-rows : goal.returns-in_err-join_to_right-clause-rows
returns-in_err-join_to_right-clause-rows g c = λ lo ln ro rn gl gr.
    let pairs = c.args.pairs.now in
    let ld = c.args.left.now in
    let rd = c.args.right.now in
    let fault = c.in_err-join_to_right.field-0.0 in
    subst (MakesFresh pairs ld ln ro rd rn) (sym (handed_on _ c.from_residual.result fault c.from_residual.ensures.1))
    (first_fault pairs lo ln ld ro rn rd gl.extends gr.extends c.join_to_right.new.set fault
    (subst (λ (l : List Row). Grows {X = Unit {0}} l (join_rows pairs ld ro) c.join_to_right.new.set (Err fault)) c.new-set.ensures (c.in_err-join_to_right.ensures ro gr.kept_is.by_key)))

pub returns-in_err-join_to_left-clause-rows : goal.returns-in_err-join_to_left-clause-rows
returns-in_err-join_to_left-clause-rows g c = λ lo ln ro rn gl gr.
    let pairs = c.args.pairs.now in
    let ld = c.args.left.now in
    let rd = c.args.right.now in
    let fault = c.in_err-join_to_left.field-0.0 in
    let first = (c.in_ok-join_to_right.ensures ro gr.kept_is.by_key).0 ∙ ap (λ (l : List Row). set_of (l ++ join_rows pairs ld ro)) c.new-set.ensures in
    let side = part_grown (lefts_of pairs) lo ln ld (g.L.RowsByKey.kept c.args.lefts.now) (g.L.RowsByKey.kept c.grow.new.self) gl c.in_ok-grow.ensures.form c.in_ok-grow.ensures.rows in
    subst (MakesFresh pairs ld ln ro rd rn) (sym (handed_on _ c.from_residual-in_err-join_to_left.result fault c.from_residual-in_err-join_to_left.ensures.1))
    (second_fault pairs lo ln ld ro rn rd gl.extends gr.extends c.join_to_right.new.set c.join_to_left.new.set fault first
    (c.in_err-join_to_left.ensures ln side.by_key))

pub returns-clause-left_side : goal.returns-clause-left_side
returns-clause-left_side g c = λ lo ln gl.
    part_grown (lefts_of c.args.pairs.now) lo ln c.args.left.now (g.L.RowsByKey.kept c.args.lefts.now) (g.L.RowsByKey.kept c.grow.new.self) gl c.in_ok-grow.ensures.form c.in_ok-grow.ensures.rows
