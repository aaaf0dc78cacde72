-- The data that lists of rows and parts make, or their first fault.
use Rattle.std.specs.Prelude.{List, map, Option, Some, None, Result, Ok, Err}
use Rattle.std.specs.List.{zip}
use Rattle.blz_value.specs.Record.{Row}
use Rattle.data_read.specs.declared.dependencies.BrokenFd.{BrokenFd}
use Rattle.data_read.specs.Broken.{first_broken}
use Rattle.topo_forms.specs.Data.{Data, SourceData}
use Rattle.topo_forms.specs.Messages.{distinct_rows}
use Rattle.topo_forms.specs.View.{View}
use Rattle.data_read.specs.declared.fault.DataFault.{DataFault}
use Rattle.data_read.specs.declared.fault.DataFault.TheVariants.{FdBroken}
use Rattle.data_read.specs.Steps.{◌>>=◌}
use Rattle.data_read.specs.Counting.{counted}

-- each record and each part once, where it first stands
abbrev pub distinct_lists : SourceData → SourceData
distinct_lists d = record { rows = distinct_rows d.rows; parts = distinct_rows d.parts }

-- FdBroken for this dependency, where there is one
abbrev pub unbroken : Option BrokenFd → Result (Unit {0}) DataFault
unbroken None = Ok tt
unbroken (Some broken) = Err (FdBroken broken.fd broken.first broken.second)

-- no dependency is broken
abbrev pub upheld : View → Data → Result (Unit {0}) DataFault
upheld v d = unbroken (first_broken v d)

-- repeats count towards the limit, and are one record afterwards
unfoldable pub data_from : View → List SourceData → Result Data DataFault
data_from v lists = do
  few ← counted v lists
  holds ← upheld v (map distinct_lists lists)
  Ok (map distinct_lists lists)

-- the sources that a list of rows and a list of parts for each make
abbrev pub source_of : List Row × List Row → SourceData
source_of lists = record { rows = lists.0; parts = lists.1 }

abbrev pub sources_of : (rows parts : List (List Row)) → List SourceData
sources_of rows parts = map source_of (zip rows parts)
