-- The first dependency that is broken, by the first record that breaks it beside one before, and the earliest of those.
use Rattle.std.specs.Prelude.{ℕ, ◌+◌, Bool, true, false, not, List, [], ◌∷◌, ◌++◌, map, Option, Some, None, if◌then◌else◌}
use Rattle.std.specs.List.{flat_map, enumerate_from}
use Rattle.std.specs.Option.{option_or}
use Rattle.std.specs.Ordering.{eq_by_cmp}
use Rattle.blz_value.specs.Record.{Row, record_cmp}
use Rattle.blz_value.specs.declared.attrs.Fd.{Fd}
use Rattle.bloom_forms.specs.Roots.{Roots}
use Rattle.topo_forms.specs.Data.{Data, SourceData, key_value, has_both}
use Rattle.topo_forms.specs.View.{View, stream_at, stream_attrs}
use Rattle.data_read.specs.declared.dependencies.BrokenFd.{BrokenFd}

-- a record with its values on the two sides of a dependency
pub record Sides : Type 0 where
  pub from : Row
  pub to : Row
  pub row : Row

abbrev pub sides_of : Fd → Roots → Row → Sides
sides_of fd columns row = record { from = key_value columns fd.from.bits row; to = key_value columns fd.to.bits row; row = row }

-- of a source with all columns of the dependency its records, of others none
abbrev pub sides_in : View → Fd → ℕ × SourceData → List Sides
sides_in v fd source = if has_both fd (stream_attrs v source.0).bits then map (sides_of fd (stream_at v source.0).columns) source.1.rows else []

-- the records that a dependency speaks of, in source and file order
abbrev pub all_sides : View → Fd → Data → List Sides
all_sides v fd d = flat_map (sides_in v fd) (enumerate_from 0 d)

abbrev pub same : Row → Row → Bool
same a b = eq_by_cmp record_cmp a b

-- one of the two holds
abbrev pub differ : Bool → Bool → Bool
differ true b = not b
differ false b = b

-- two records disagree where they agree on exactly one of the two sides
abbrev pub disagree : Sides → Sides → Bool
disagree later earlier = differ (same later.from earlier.from) (same later.to earlier.to)

-- the first of some records at which a test holds
abbrev pub first_such : (Sides → Bool) → List Sides → Option Sides
first_such test [] = None
first_such test (x ∷ xs) = if test x then Some x else first_such test xs

-- an earlier record, where there is one, before a later one; else what comes of the rest
abbrev pub pair_or : Option Sides → Sides → Option (Row × Row) → Option (Row × Row)
pair_or None later rest = rest
pair_or (Some earlier) later rest = Some (earlier.row, later.row)

-- the first record that disagrees with an earlier one, after the earliest such
abbrev pub broken_pair : (earlier later : List Sides) → Option (Row × Row)
broken_pair earlier [] = None
broken_pair earlier (x ∷ xs) = pair_or (first_such (disagree x) earlier) x (broken_pair (earlier ++ x ∷ []) xs)

-- the dependency with this number is broken by the pair, where there is one
abbrev pub broken_by : (number : ℕ) → Option (Row × Row) → Option BrokenFd
broken_by number None = None
broken_by number (Some pair) = Some (record { fd = number; first = pair.0; second = pair.1 })

-- the first of these dependencies that is broken; they are numbered from `number` on
abbrev pub first_broken_from : View → (number : ℕ) → List Fd → Data → Option BrokenFd
first_broken_from v number [] d = None
first_broken_from v number (fd ∷ fds) d = option_or (broken_by number (broken_pair [] (all_sides v fd d))) (first_broken_from v (number + 1) fds d)

-- the first dependency that is broken
abbrev pub first_broken : View → Data → Option BrokenFd
first_broken v d = first_broken_from v 0 v.fds d
