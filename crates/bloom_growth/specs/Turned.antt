-- What comes and what goes of a part in a step.
use Rattle.std.specs.Prelude.{◌≡◌, ◌<◌, ◌≤◌, Result, Ok, Err, List, length}
use Rattle.blz_value.specs.Record.{Row}
use Rattle.blz_value.specs.Sets.{IsRowSet}
use Rattle.blz_set.specs.Missing.{missing_from}
use Rattle.blz_set.specs.RecordSet.{row_limit}
use Rattle.blz_set.specs.declared.fault.SetFault.{SetFault}
use Rattle.blz_set.specs.declared.fault.SetFault.TheVariants.{TooManyRows, NoMemory}
use Rattle.bloom_growth.specs.declared.turn.Turn.{Turn}

-- the rows that come are those of the new that the old lack, the rows that go those of the old that the new lack
pub record Turned (old new more gone : List Row) : Type 0 where
  pub old_sorted : IsRowSet old
  pub new_sorted : IsRowSet new
  pub more_is : more ≡ missing_from old new
  pub gone_is : gone ≡ missing_from new old

-- the answer is such a turn; TooManyRows comes only where the new rows are too many
abbrev pub TurnsInto : (old new : List Row) → Result Turn SetFault → Type 0
TurnsInto old new (Ok turn) = Turned old new turn.more turn.gone × (length new ≤ row_limit)
TurnsInto old new (Err TooManyRows) = row_limit < length new
TurnsInto old new (Err NoMemory) = Unit {0}
