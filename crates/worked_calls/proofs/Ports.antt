-- One set with rows of two values arrives at each of two ports of two columns.
use Rattle.std.proofs.Common.{◌≡◌, List, [], ◌∷◌, length, slice_index_or, subst, sym, arith}
use Rattle.std.specs.List.{All}
use Rattle.blz_value.specs.Record.{Row}
use Rattle.bloom_forms.specs.Query.{Name}
use Rattle.bloom_forms.specs.Widths.{AreSetsOf}

pub two_ports_wide : (columns : List (List Name)) (first second : List Row) → length columns ≡ 2 → length (slice_index_or columns 0 []) ≡ 2 → length (slice_index_or columns 1 []) ≡ 2
    → All (λ row. length row ≡ 2) first → All (λ row. length row ≡ 2) second → AreSetsOf columns (first ∷ second ∷ [])
two_ports_wide [] first second two one other wide also = absurd (omega (arith, two))
two_ports_wide (names ∷ []) first second two one other wide also = absurd (omega (arith, two))
two_ports_wide (names ∷ more ∷ []) first second two one other wide also =
    (subst (λ width. All (λ (row : Row). length row ≡ width) first) (sym one) wide, (subst (λ width. All (λ (row : Row). length row ≡ width) second) (sym other) also, tt))
two_ports_wide (names ∷ more ∷ last ∷ columns) first second two one other wide also = absurd (omega (arith, two))
