-- The source with which there are too many rows and parts.
use Rattle.std.specs.Prelude.{ℕ, ◌+◌, nat_lt, List, [], ◌∷◌, Option, Some, None, Result, Ok, Err, if◌then◌else◌}
use Rattle.topo_forms.specs.Data.{SourceData}
use Rattle.topo_forms.specs.View.{View, stream_at}
use Rattle.data_read.specs.declared.fault.DataFault.{DataFault}
use Rattle.data_read.specs.declared.fault.DataFault.TheVariants.{TooMany}
use Rattle.topo_forms.specs.DataCounts.{count_of, source_limit}

-- the source with which rows and parts pass the limit, where so many came before the source numbered s
abbrev pub passed_at : (so_far s : ℕ) → List SourceData → Option ℕ
passed_at so_far s [] = None
passed_at so_far s (d ∷ ds) = if nat_lt source_limit (so_far + count_of d) then Some s else passed_at (so_far + count_of d) (s + 1) ds

-- TooMany at this source, where there is one
abbrev pub few : View → Option ℕ → Result (Unit {0}) DataFault
few v None = Ok tt
few v (Some s) = Err (TooMany (stream_at v s).name)

-- rows and parts are few enough
abbrev pub counted : View → List SourceData → Result (Unit {0}) DataFault
counted v lists = few v (passed_at 0 0 lists)
