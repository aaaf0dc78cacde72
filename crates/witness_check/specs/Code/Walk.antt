-- Two lists of records are walked side by side up to the first place at which they differ.
use Rattle.std.specs.Prelude.{Option, None, Some, List, [], ◌∷◌}
use Rattle.std.specs.Ordering.{match_ordering}
use Rattle.blz_value.specs.Record.{Row, record_cmp}
use Rattle.witness_check.specs.declared.difference.Which.{Which}
use Rattle.witness_check.specs.declared.difference.Which.TheVariants.{First, Second}

-- the lesser of the records there, or the one where the other list ends, and which list has it
abbrev pub first_unequal : (first second : List Row) → Option (Which × Row)
first_unequal [] [] = None
first_unequal [] (s ∷ second) = Some (Second, s)
first_unequal (r ∷ first) [] = Some (First, r)
first_unequal (r ∷ first) (s ∷ second) = match_ordering (record_cmp r s) (Some (First, r)) (first_unequal first second) (Some (Second, s))
