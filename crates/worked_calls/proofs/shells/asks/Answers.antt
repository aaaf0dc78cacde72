use Rattle.std.proofs.Common.{◌≡◌, sym, subst, length, rules}
use Rattle.std.specs.List.{All}
use Rattle.blz_value.proofs.RowSets.{All-set_of}
use Rattle.worked_calls.proofs.shells.asks.Goals as goal

pub returns : goal.returns
returns c =
    let wide : All (λ row. length row ≡ 1) c.in_ok-vec.field-0.items = search rules in
    subst (All (λ row. length row ≡ 1)) (sym c.in_ok-from_rows.ensures.0) (All-set_of (λ row. length row ≡ 1) c.in_ok-vec.field-0.items wide)
