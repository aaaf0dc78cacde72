-- What the readers of topologies and of data refuse is refused with its line.
use Rattle.std.proofs.Common.{◌≡◌, ◌∙◌, Result, Err, ap}
use Rattle.data_read.specs.Gives as reading
use Rattle.data_read.specs.declared.fault.DataFault.{DataFault}
use Rattle.data_read.specs.declared.fault.DataFault.TheVariants as faults
use Rattle.report_lines.specs.declared.refusal.Refusal.TheVariants as refusal
use Rattle.topo_read.specs.Document.{document_of}
use Rattle.topo_read.specs.Fields.{Path}
use Rattle.topo_read.specs.Reading.{IsFormOf}
use Rattle.topo_forms.specs.Data.{Data}
use Rattle.topo_forms.specs.Modes.{names_in}
use Rattle.topo_forms.specs.View.{View, fd_at}
use Rattle.topo_forms.specs.declared.topology.Topology.{Topology}
use Rattle.command_checks.specs.Ran.{Gives, IsStopAt}
use Rattle.command_checks.specs.Script.{Bytes}
use Rattle.command_checks.specs.declared.stop.Stop.{Stop}
use Rattle.command_checks.proofs.RefusedLemmas.{memory_gives, refused_gives}
use Rattle.command_checks.specs.Checks as check

-- what is read of a document
pub formed_gives : (bytes : Bytes) (form : Result Topology Path) → IsFormOf bytes form → check.topology_in (document_of bytes) ≡ check.formed form
formed_gives bytes form is = ap check.topology_in is.1 ∙ ap check.formed is.2

-- data that are refused
pub data_gives : (v : View) (fault : DataFault) (given : Result Data DataFault) (stop : Stop) → reading.Gives (λ (d : Data). d) (Err fault) given → IsStopAt (check.data_refusal v fault) stop
    → Gives (λ (d : Data). d) (Err stop) (check.data_in v given)
data_gives v faults.NotJson given stop is said = refused_gives (λ (d : Data). d) (check.data_in v given) refusal.NotJson stop (ap (check.data_in v) is) said
data_gives v (faults.DataForm name row) given stop is said = refused_gives (λ (d : Data). d) (check.data_in v given) (refusal.DataForm name row) stop (ap (check.data_in v) is) said
data_gives v (faults.TooMany name) given stop is said = refused_gives (λ (d : Data). d) (check.data_in v given) (refusal.DataTooMany name) stop (ap (check.data_in v) is) said
data_gives v (faults.FdBroken fd first second) given stop is said =
    refused_gives (λ (d : Data). d) (check.data_in v given) (refusal.FdBroken (names_in v.attributes (fd_at v fd).from.bits) (names_in v.attributes (fd_at v fd).to.bits) first second) stop (ap (check.data_in v) is) said
data_gives v faults.NoMemory given stop is said = memory_gives (λ (d : Data). d) (check.data_in v given) stop said
