-- How many rows and parts the sources hold.
use Rattle.std.specs.Prelude.{ℕ, ◌+◌, ◌≤◌, List, length}
use Rattle.std.specs.List.{sum_by}
use Rattle.topo_forms.specs.Data.{SourceData}

-- the most rows and parts of all sources together
abbrev pub source_limit : ℕ
source_limit = 65536

-- rows and parts of a source, repeats included
abbrev pub count_of : SourceData → ℕ
count_of d = length d.rows + length d.parts

-- all rows and parts together are no more than the limit
abbrev pub AreFew : List SourceData → Type 0
AreFew lists = sum_by count_of lists ≤ source_limit
