-- What a set becomes while rows are added one by one.
use Rattle.std.specs.Prelude.{◌≡◌, ◌<◌, ◌≤◌, List, ◌++◌, length, Result, Ok, Err}
use Rattle.blz_value.specs.Record.{Row}
use Rattle.blz_value.specs.Sets.{set_of}
use Rattle.blz_set.specs.RecordSet.{row_limit}
use Rattle.blz_set.specs.declared.fault.SetFault.{SetFault}
use Rattle.blz_set.specs.declared.fault.SetFault.TheVariants.{TooManyRows, NoMemory}

-- the old rows grow by others; a fault may leave part of them
abbrev pub Grows : {X : Type 0} → List Row → List Row → List Row → Result X SetFault → Type 0
Grows old more new (Ok x) = (new ≡ set_of (old ++ more)) × (length new ≤ row_limit)
Grows old more new (Err TooManyRows) = row_limit < length (set_of (old ++ more))
Grows old more new (Err NoMemory) = Unit {0}
