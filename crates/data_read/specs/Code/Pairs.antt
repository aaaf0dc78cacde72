-- A source of two vectors.
use Rattle.std.specs.Prelude.{Vec}
use Rattle.std.specs.declared.alloc.Global.{Global}
use Rattle.blz_value.specs.Record.{Row}
use Rattle.topo_forms.specs.Data.{SourceData}

abbrev pub Rows : Type 0
Rows = Vec Row Global

abbrev pub source_in : Rows × Rows → SourceData
source_in lists = record { rows = lists.0.items; parts = lists.1.items }
