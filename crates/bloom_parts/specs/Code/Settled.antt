-- Changes by sets.
use Rattle.std.specs.Prelude.{◌≡◌}
use Rattle.bloom_parts.specs.declared.change.Rows.{Rows}
use Rattle.bloom_parts.specs.declared.change.Rows.TheVariants.{Lent, Own, One}
use Rattle.bloom_parts.specs.declared.change.Change.{Change}
use Rattle.bloom_parts.specs.Turns.{rows_in}

-- rows that are a set, lent or owned
abbrev pub IsSet : Rows → Type 0
IsSet (Lent set) = Unit {0}
IsSet (Own set) = Unit {0}
IsSet (One row) = ⊥

-- both the rows of a change and those that go are
pub record AreSets (change : Change) : Type 0 where
  pub rows : IsSet change.rows
  pub gone : IsSet change.gone

-- the same change by sets
pub record AreSettled (change settled : Change) : Type 0 where
  pub kept : settled.kept ≡ change.kept
  pub rows : rows_in settled.rows ≡ rows_in change.rows
  pub gone : rows_in settled.gone ≡ rows_in change.gone
  pub sets : AreSets settled
