-- What changes when one record more is counted.
use Rattle.std.specs.Prelude.{◌≡◌, ◌+◌, ℕ, if◌then◌else◌}
use Rattle.std.specs.BTreeMap.{BTreeMap}
use Rattle.blz_value.specs.Record.{Row}
use Rattle.blz_value.specs.Message.{is_same_row}
use Rattle.messages.specs.EmittedCounts.{count_of}

-- one record more of this key value was counted
abbrev pub CountsOne : (old new : BTreeMap Row ℕ) → (key : Row) → Type 0
CountsOne old new key = (k : Row) → count_of new k ≡ (if is_same_row key k then count_of old k + 1 else count_of old k)
