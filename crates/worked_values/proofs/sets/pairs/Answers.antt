use Rattle.std.proofs.Common.{◌≡◌, All, sym, subst, length, List}
use Rattle.blz_value.specs.Record.{Row}
use Rattle.blz_value.proofs.RowSets.{All-set_of}
use Rattle.worked_values.proofs.sets.pairs.Goals as goal

pub returns : goal.returns
returns c =
    let wide = λ (row : Row). length row ≡ 2 in
    subst (λ (rows : List Row). All wide rows) (sym c.in_ok-from_rows.ensures.0) (All-set_of wide c.loop-number.rows.items c.loop-number.invariant)
