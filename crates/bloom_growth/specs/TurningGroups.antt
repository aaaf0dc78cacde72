-- The aggregates of the rows of a part that rows enter and leave, by keys.
use Rattle.std.specs.Prelude.{ℕ, ◌≡◌, ◌<◌, ◌≤◌, Option, None, Some, List, [], length}
use Rattle.std.specs.Ordering.{eq_by_cmp}
use Rattle.indexmap.specs.IndexMap.{IndexMap, IsEmpty, get}
use Rattle.blz_value.specs.declared.aggregate.Agg.{Agg}
use Rattle.blz_value.specs.Groups.{with_key}
use Rattle.blz_value.specs.Record.{Row, record_cmp}
use Rattle.blz_set.specs.RecordSet.{row_limit}
use Rattle.bloom_growth.specs.declared.tally.Tally.{Tally}
use Rattle.bloom_growth.specs.declared.turning_groups.TurningGroups.{TurningGroups}
use Rattle.bloom_growth.specs.Tallies.{IsTally}
use Rattle.bloom_growth.specs.Turned.{Turned}

-- it is what an aggregate has come to over some rows, where there are any
abbrev pub IsTalliedAt : Agg → List Row → Option Tally → Type 0
IsTalliedAt agg rows None = rows ≡ []
IsTalliedAt agg rows (Some tally) = IsTally agg rows tally × (0 < length rows)

-- the aggregate at a key
abbrev pub tally_at : {S : Type 0} → IndexMap Row Tally S → Row → Option Tally
tally_at tallies key = get (eq_by_cmp record_cmp) tallies key

-- at each key that occurs among the rows stands the aggregate of those that have it
abbrev pub AreTallied : {S : Type 0} → List ℕ → Agg → List Row → IndexMap Row Tally S → Type 0
AreTallied keys agg rows tallies = (key : Row) → IsTalliedAt agg (with_key keys key rows) (tally_at tallies key)

-- the aggregates by these keys, without rows
pub record AreFreshTallies (keys : List ℕ) (agg : Agg) (groups : TurningGroups) : Type 0 where
  pub keys_are : groups.keys.items ≡ keys
  pub agg_is : groups.agg ≡ agg
  pub none : IsEmpty groups.tallies

-- the aggregates of these rows by these keys
pub record TalliesStand (keys : List ℕ) (agg : Agg) (rows : List Row) (groups : TurningGroups) : Type 0 where
  pub keys_are : groups.keys.items ≡ keys
  pub agg_is : groups.agg ≡ agg
  pub tallied : AreTallied keys agg rows groups.tallies

-- a part's rows changed, and the aggregates are those of its old rows
pub record GroupsTurn (keys : List ℕ) (agg : Agg) (old new more gone : List Row) (groups : TurningGroups) : Type 0 where
  pub turned : Turned old new more gone
  pub few_old : length old ≤ row_limit
  pub few_new : length new ≤ row_limit
  pub stand : TalliesStand keys agg old groups
