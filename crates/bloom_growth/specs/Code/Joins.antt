-- A join that goes through its right rows, and the rows that it gets and loses.
use Rattle.std.specs.Prelude.{ℕ, ◌≡◌, ◌<◌, ◌≤◌, Result, Ok, Err, List, ◌++◌, length, map, filter}
use Rattle.std.specs.List.{flat_map}
use Rattle.blz_value.specs.Operators.{Pairs, agree, joined, join_rows}
use Rattle.blz_value.specs.Record.{Row}
use Rattle.blz_value.specs.Sets.{set_of}
use Rattle.blz_set.specs.Missing.{missing_from}
use Rattle.blz_set.specs.RecordSet.{row_limit}
use Rattle.blz_set.specs.declared.fault.SetFault.{SetFault}
use Rattle.blz_set.specs.declared.fault.SetFault.TheVariants.{TooManyRows, NoMemory}
use Rattle.bloom_growth.specs.Growth.{Extends}
use Rattle.bloom_growth.specs.Kept.{Kept, IsKeptOf}

-- the rows that a right row makes with left rows
abbrev pub turned : Pairs → List Row → Row → List Row
turned pairs lefts right = map (λ left. joined pairs left right) (filter (λ left. agree pairs left right) lefts)

-- the joined row of each right and left row that agree on all pairs
abbrev pub turned_rows : Pairs → (lefts rights : List Row) → List Row
turned_rows pairs lefts rights = flat_map (turned pairs lefts) rights

-- the new rows of a join of parts that grow, of new left rows, all left rows, old right rows, new right rows and all right rows
abbrev pub MakesFresh : Pairs → (ld ln ro rd rn : List Row) → Result (List Row) SetFault → Type 0
MakesFresh pairs ld ln ro rd rn (Ok set) = set ≡ set_of (set_of (join_rows pairs ld ro) ++ turned_rows pairs ln rd)
MakesFresh pairs ld ln ro rd rn (Err TooManyRows) = row_limit < length (set_of (join_rows pairs ln rn))
MakesFresh pairs ld ln ro rd rn (Err NoMemory) = Unit {0}

-- a part grew, and what is kept is that of its old rows
pub record PartGrows (columns : List ℕ) (old new more : List Row) (kept : Kept) : Type 0 where
  pub extends : Extends old new more
  pub few : length new ≤ row_limit
  pub kept_is : IsKeptOf columns old kept

-- the rows that a join loses: of rows that go of the right part with all rows of before, and of rows that go of the left part with those that stay
abbrev pub lost_rows : Pairs → (lo lg ro rg : List Row) → List Row
lost_rows pairs lo lg ro rg = set_of (set_of (turned_rows pairs lo rg) ++ join_rows pairs lg (missing_from rg ro))

-- the answer is those; TooManyRows comes only where there were too many before
abbrev pub MakesLost : Pairs → (lo lg ro rg : List Row) → Result (List Row) SetFault → Type 0
MakesLost pairs lo lg ro rg (Ok set) = set ≡ lost_rows pairs lo lg ro rg
MakesLost pairs lo lg ro rg (Err TooManyRows) = row_limit < length (set_of (join_rows pairs lo ro))
MakesLost pairs lo lg ro rg (Err NoMemory) = Unit {0}
