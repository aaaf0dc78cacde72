-- The first records with their values on the sides of a dependency, by number.
use Rattle.std.specs.Prelude.{◌≡◌, ℕ, Bool, ◌==◌, min, List, [], ◌∷◌, ◌++◌, map, Option, None, Some, slice_index_or, if◌then◌else◌}
use Rattle.std.specs.List.{position_from}
use Rattle.blz_value.specs.Record.{Row}
use Rattle.blz_value.specs.Test.{cell}
use Rattle.data_read.specs.declared.dependencies.Placed.{Placed}
use Rattle.data_read.specs.declared.dependencies.Sided.{Sided}
use Rattle.data_read.specs.declared.dependencies.sides.Side.{Side}
use Rattle.data_read.specs.Broken.{Sides, same}

-- the values on a side
abbrev pub values_of : Side → Row
values_of side = map (cell side.row.now) side.places.now

-- a record with its values at the places of both sides
abbrev pub sides_at : (from to : List ℕ) → Row → Sides
sides_at from to row = record { from = map (cell row) from; to = map (cell row) to; row = row }

abbrev pub sides_view : Sided → Sides
sides_view one = sides_at one.from.now one.to.now one.row.now

-- the records of a source by their places
abbrev pub placed_sides : Placed → List Sides
placed_sides source = map (sides_at source.from.items source.to.items) source.rows.now

-- the number of the first record with these values on the side `from`, and of the first on the side `to`
abbrev pub place_by_from : List Sides → Row → Option ℕ
place_by_from firsts key = position_from (λ y. same key y.from) 0 firsts

abbrev pub place_by_to : List Sides → Row → Option ℕ
place_by_to firsts key = position_from (λ y. same key y.to) 0 firsts

-- the number of the first side with these values
abbrev pub number_of : List Side → Row → Option ℕ
number_of sides key = position_from (λ side. same key (values_of side)) 0 sides

-- the number of a side that isn't new
abbrev pub if_known : ℕ → Bool → Option ℕ
if_known number is_new = if is_new then None else Some number

-- a side that has no number yet goes last
abbrev pub with_side : Option ℕ → List Side → Side → List Side
with_side None sides side = sides ++ side ∷ []
with_side (Some number) sides side = sides

-- the record of the side with this number
abbrev pub IsRowAt : List Side → ℕ → Row → Type 0
IsRowAt sides number row = (other : Side) → row ≡ (slice_index_or sides number other).row.now

-- the number of the first record that agrees on exactly one side, of the first that agrees on each
abbrev pub one_place : Option ℕ → Option ℕ → Option ℕ
one_place None second = second
one_place (Some i) None = Some i
one_place (Some i) (Some j) = if i == j then None else Some (min i j)
