-- Rows behind references.
use Rattle.std.specs.Prelude.{List, map}
use Rattle.blz_value.specs.Record.{Row}
use denote.Ref.{Bor}

-- the rows behind references
abbrev pub shown : List (Bor Row) → List Row
shown refs = map (λ r. r.now) refs
