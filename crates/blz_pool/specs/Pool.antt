-- A pool is a list of records, none of which stands twice; the number of a record is its place.
use Rattle.std.specs.Prelude.{ℕ, ◌≤◌, ◌≢◌, List, [], ◌∷◌, ◌++◌, length, AllPairs, Option, is_some, if◌then◌else◌}
use Rattle.std.specs.List.{position_from}
use Rattle.std.specs.Ordering.{eq_by_cmp}
use Rattle.blz_value.specs.Record.{Row, record_cmp}

-- the most records of a pool
abbrev pub record_limit : ℕ
record_limit = 262144

-- no record stands twice, and they are not too many
pub record IsPool (records : List Row) : Type 0 where
  pub distinct : AllPairs (λ a b. a ≢ b) records
  pub few : length records ≤ record_limit

-- the number of a record, counted from 0; none where it isn't held
abbrev pub number_of : List Row → Row → Option ℕ
number_of records row = position_from (λ held. eq_by_cmp record_cmp held row) 0 records

-- the records with one more, which goes last where it is new
abbrev pub with_record : List Row → Row → List Row
with_record records row = if is_some (number_of records row) then records else records ++ row ∷ []
