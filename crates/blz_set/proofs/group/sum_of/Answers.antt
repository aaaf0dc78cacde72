use Rattle.std.proofs.Common.{◌∙◌, sym, ap, arith}
use Rattle.std.proofs.lemmas.Int.{ints}
use Rattle.blz_value.specs.Groups.{summand}
use Rattle.blz_value.specs.Test.{cell}
use Rattle.blz_set.specs.Code.ValueRef.{value_of}
use Rattle.blz_set.proofs.Aggregates.{exact_sum_step}
use Rattle.blz_set.proofs.group.sum_of.Goals as goal
use Rattle.blz_set.proofs.group.sum_of.Goals.{in-Number, in_default}

pub loop-entry-preserved : goal.loop-entry-preserved
loop-entry-preserved c =
    let step = exact_sum_step c.args.column c.args.rows.now c.loop-entry.entry-index c.entry-item.result (omega arith) c.entry-item.is in
    let value = sym (ap (λ row. cell row c.args.column) c.row.ensures) ∙ sym c.at.ensures in
    elim c.match-at.branch [
      | in-Number w ↦
          let part = ap summand (value ∙ ap value_of w.in-Number.is) in
          record { total = omega (arith, ints, step, part, w.from-sum.ensures); high = omega (arith, ints, w.from-sum.ensures); low = omega (arith, ints, w.from-sum.ensures) }
      | in_default w ↦
          let part = ap summand (value ∙ ap value_of w.in_default.is) in
          record { total = omega (arith, ints, step, part); high = omega (arith, ints); low = omega (arith, ints) }
    ]
