-- What a group and an atleast make of one key of a set's rows.
use Rattle.std.specs.Prelude.{ℕ, nat_le, Bool, List, [], ◌∷◌, ◌++◌, length}
use Rattle.blz_value.specs.declared.aggregate.Agg.{Agg}
use Rattle.blz_value.specs.Record.{Row}
use Rattle.blz_value.specs.Groups.{aggregate, with_key}

-- a key and the aggregate over its rows
abbrev pub grouped : List ℕ → Agg → List Row → Row → Row
grouped keys agg rows key = key ++ aggregate agg (with_key keys key rows) ∷ []

-- whether a key occurs in at least so many rows
abbrev pub is_often : List ℕ → ℕ → List Row → Row → Bool
is_often keys bound rows key = nat_le bound (length (with_key keys key rows))
