use Rattle.std.proofs.Common.{◌∙◌, Some, None, ap, sym}
use Rattle.blz_value.specs.Record.{Row}
use Rattle.witness_check.proofs.InOne.{said}
use Rattle.witness_check.proofs.Walks.{walked, walk_same}
use Rattle.witness_check.proofs.difference.difference_at.Goals as goal

pub returns-in_ok-copy-in-Some-clause-difference : goal.returns-in_ok-copy-in-Some-clause-difference
returns-in_ok-copy-in-Some-clause-difference c =
    ap (λ (row : Row). Some (said c.args.stream c.args.replica (c.in-Some.held_by, row))) c.in_ok-copy-in-Some.ensures
    ∙ walked c.args.stream c.args.replica c.args.first.now c.args.second.now c.rows.result.now c.rows-2.result.now c.rows.ensures.all c.rows-2.ensures.all c.rows.ensures.set.sorted c.rows-2.ensures.set.sorted (Some (c.in-Some.held_by, c.in-Some.row.now)) c.in-Some.ensures

pub returns-in-None-clause-difference : goal.returns-in-None-clause-difference
returns-in-None-clause-difference c =
    walked c.args.stream c.args.replica c.args.first.now c.args.second.now c.rows.result.now c.rows-2.result.now c.rows.ensures.all c.rows-2.ensures.all c.rows.ensures.set.sorted c.rows-2.ensures.set.sorted None c.in-None.ensures

pub returns-in-None-clause-none : goal.returns-in-None-clause-none
returns-in-None-clause-none c = sym c.rows.ensures.all ∙ walk_same c.rows.result.now c.rows-2.result.now (sym c.in-None.ensures) ∙ c.rows-2.ensures.all
