-- The lines that no check gives.
use Rattle.std.specs.Prelude.{ℕ, List, ◌++◌, codes}
use Rattle.blz_value.specs.Text.{escaped}

-- the line for a file whose read failed
abbrev pub cannot_read : List ℕ → List ℕ
cannot_read name = codes "cannot read " ++ escaped name ++ codes "\n"
