-- A pool gets more records, and each id that it gave keeps its record.
use Rattle.std.specs.Prelude.{◌≡◌, ◌<◌, ◌≤◌, ℕ, List, length}
use Rattle.blz_pool.specs.Pool.{IsPool, with_record}
use Rattle.blz_value.specs.Record.{Row}
use Rattle.messages.specs.Messages.{Batch}
use Rattle.inbox.specs.Instances.{Instance}
use Rattle.blz_pool.specs.Entries.{EntryId, row_with_id, entries_with_ids}
use Rattle.messages.specs.Log.{AreGiven}
use Rattle.inbox.specs.Inbox.{HasHeard, IsFrom}
use Rattle.inbox.specs.declared.inbox.Inbox.{Inbox}

-- a pool with the first records has the others later: each id that it gave has the record that it had
pub record IsLater (records later : List Row) : Type 0 where
  pub pool : IsPool later
  pub count : length records ≤ length later
  pub same : (id : ℕ) → id < length records → row_with_id later id ≡ row_with_id records id

-- so it is after a record is placed
abbrev pub PlacedIsLater : Type 0
PlacedIsLater = (records : List Row) (row : Row) → IsPool (with_record records row) → IsLater records (with_record records row)

-- and after two steps, each to a later pool
abbrev pub LaterInSteps : Type 0
LaterInSteps = (records later last : List Row) → IsLater records later → IsLater later last → IsLater records last

-- an inbox stands for the same batches by each later pool
abbrev pub StandsLater : Type 0
StandsLater = (i : Instance) (records later : List Row) (batches : List Batch) (x : Inbox) → IsLater records later → HasHeard i records batches x → HasHeard i later batches x

-- which gave each id that it keeps
abbrev pub KeepsLater : Type 0
KeepsLater = (records later : List Row) (x : Inbox) → IsLater records later → IsFrom records x → IsFrom later x

-- the later pool gave each id of a log too
abbrev pub GivenLater : Type 0
GivenLater = (records later : List Row) (entries : List EntryId) → IsLater records later → AreGiven records entries → AreGiven later entries

-- and the log has the same records by it
abbrev pub ReadsLater : Type 0
ReadsLater = (records later : List Row) (entries : List EntryId) → IsLater records later → AreGiven records entries → entries_with_ids later entries ≡ entries_with_ids records entries
