-- What becomes of aggregates by keys where one row comes or goes.
use Rattle.std.specs.Prelude.{◌≡◌, ◌<◌, ◌↔◌, Bool, IsTrue, Option, None, Some, List, [], ◌∷◌, length}
use Rattle.indexmap.specs.IndexMap.{IndexMap, IsUnchanged}
use Rattle.blz_value.specs.declared.aggregate.Agg.{Agg}
use Rattle.blz_value.specs.declared.value.Value.{Value}
use Rattle.blz_value.specs.Groups.{aggregate}
use Rattle.blz_value.specs.Record.{Row}
use Rattle.blz_set.specs.RecordSet.{row_limit}
use Rattle.bloom_growth.specs.declared.tallies.Step.{Step}
use Rattle.bloom_growth.specs.declared.tally.Tally.{Tally}
use Rattle.bloom_growth.specs.Tallies.{IsTally}
use Rattle.bloom_growth.specs.TurningGroups.{IsTalliedAt, tally_at}

-- at all keys but this one stands what stood there
abbrev pub KeepsOthers : {S : Type 0} → Row → (old new : IndexMap Row Tally S) → Type 0
KeepsOthers key old new = (other : Row) → ¬ (other ≡ key) → tally_at new other ≡ tally_at old other

-- the aggregate at a key goes on with one row more
pub record GoesOn {S : Type 0} (agg : Agg) (key row : Row) (old new : IndexMap Row Tally S) : Type 0 where
  pub at_key : (run : List Row) → length run < row_limit → IsTalliedAt agg run (tally_at old key) → IsTalliedAt agg (row ∷ run) (tally_at new key)
  pub others : KeepsOthers key old new

-- what an aggregate comes to over some rows, and nothing where there are none
abbrev pub value_of : Agg → List Row → Option Value
value_of agg [] = None
value_of agg (row ∷ rows) = Some (aggregate agg (row ∷ rows))

-- what the aggregate at a key was and is
pub record IsStep {S : Type 0} (agg : Agg) (key : Row) (old new : IndexMap Row Tally S) (step : Step) : Type 0 where
  pub was : (run : List Row) → IsTalliedAt agg run (tally_at old key) → step.before ≡ value_of agg run
  pub is : (run : List Row) → IsTalliedAt agg run (tally_at new key) → step.after ≡ aggregate agg run

-- the aggregate at a key goes on where the key is there, and else nothing changes
abbrev pub StepsAt : {S : Type 0} → Option Step → Agg → (key row : Row) → (old new : IndexMap Row Tally S) → Type 0
StepsAt (Some step) agg key row old new = GoesOn agg key row old new × IsStep agg key old new step
StepsAt None agg key row old new = IsUnchanged old new × (tally_at old key ≡ None)

-- the aggregate at a key goes on with one row less
pub record GoesBack {S : Type 0} (agg : Agg) (key row : Row) (old new : IndexMap Row Tally S) : Type 0 where
  pub at_key : (run : List Row) → length run < row_limit → IsTalliedAt agg (row ∷ run) (tally_at old key) → IsTalliedAt agg run (tally_at new key)
  pub others : KeepsOthers key old new

-- an aggregate without rows may be left, and whether it is so is the answer
abbrev pub IsLeft : Bool → Agg → List Row → Option Tally → Type 0
IsLeft last agg run None = ⊥
IsLeft last agg run (Some tally) = IsTally agg run tally × (IsTrue last ↔ (length run ≡ 0))

-- one row less, where an aggregate without rows may be left
pub record LeavesAt {S : Type 0} (last : Bool) (agg : Agg) (key row : Row) (old new : IndexMap Row Tally S) : Type 0 where
  pub at_key : (run : List Row) → length run < row_limit → IsTalliedAt agg (row ∷ run) (tally_at old key) → IsLeft last agg run (tally_at new key)
  pub others : KeepsOthers key old new
