-- The checks of a topology, its modules and its data, each a script of its own that knows no other.
use Rattle.std.specs.Prelude.{ℕ, List, [], ◌∷◌, Option, Some, None, Result, Ok, Err}
use Rattle.std.specs.List.{filter_map}
use Rattle.toml.specs.Data.{Members}
use Rattle.bloom_forms.specs.declared.fault.ModuleFault.{ModuleFault}
use Rattle.bloom_forms.specs.FirstFault.{first_fault}
use Rattle.bloom_forms.specs.Form.{Accepted, Form}
use Rattle.bloom_forms.specs.HeadOrder.{heads_of}
use Rattle.bloom_parse.specs.declared.refusal.TextFault.{TextFault}
use Rattle.bloom_parse.specs.Reading.{reading_of}
use Rattle.data_read.specs.declared.fault.DataFault.{DataFault}
use Rattle.data_read.specs.declared.fault.DataFault.TheVariants as data_faults
use Rattle.data_read.specs.Reading.{data_of}
use Rattle.topo_forms.specs.Data.{Data}
use Rattle.topo_forms.specs.Modes.{names_in}
use Rattle.topo_forms.specs.View.{View, fd_at}
use Rattle.topo_forms.specs.declared.fault.TopoFault.{TopoFault}
use Rattle.topo_forms.specs.declared.topology.Topology.{Topology}
use Rattle.topo_forms.specs.Valid.{Validated, needs_module}
use Rattle.topo_forms.specs.Validity.{fault_of}
use Rattle.topo_forms.specs.ViewOf.{view_of}
use Rattle.topo_read.specs.Document.{document_of}
use Rattle.topo_read.specs.Topology.{topology_of}
use Rattle.report_lines.specs.declared.refusal.Refusal.{Refusal}
use Rattle.report_lines.specs.declared.refusal.Refusal.TheVariants as refusal
use Rattle.report_lines.specs.Refusals.{refusal_line}
use Rattle.command_checks.specs.FileChecks.{checked, file, line_of}
use Rattle.command_checks.specs.Script.{Bytes, Script, ◌>>=◌}

-- each in turn
abbrev pub each : {A B : Type 0} → (A → Script B) → List A → Script (List B)
each check [] = Script.gives []
each check (x ∷ xs) = do
  first ← check x
  others ← each check xs
  Script.gives (first ∷ others)

-- ---- the topology

-- what is read of a document, or the line of its first break
abbrev pub formed : Result Topology Bytes → Result Topology Bytes
formed (Ok t) = Ok t
formed (Err path) = Err (refusal_line (refusal.Form path))

-- the topology of what was read as TOML
abbrev pub topology_in : Option Members → Result Topology Bytes
topology_in None = Err (refusal_line refusal.NotToml)
topology_in (Some document) = formed (topology_of document)

-- the most bytes of a topology file: 256 KiB
abbrev pub topology_limit : ℕ
topology_limit = 262144

-- a topology file: read, length, TOML, form
abbrev pub topology_file : Bytes → Script Topology
topology_file name = do
  bytes ← file topology_limit name
  checked (topology_in (document_of bytes))

-- ---- its modules

-- a module that has no fault, with its heads in the order that a check chooses
abbrev pub faultless : Bytes → Form → Option ModuleFault → Result Accepted Bytes
faultless name m None = Ok (record { form = m; heads = heads_of m })
faultless name m (Some fault) = Err (refusal_line (refusal.Module name fault))

-- a module's text as it was read
abbrev pub module_read : Bytes → Result Form TextFault → Result Accepted Bytes
module_read name (Ok m) = faultless name m (first_fault m)
module_read name (Err fault) = Err (refusal_line (refusal.ModuleText name fault.line fault.column))

-- the most bytes of a module file: 64 KiB
abbrev pub module_limit : ℕ
module_limit = 65536

-- a module file: read, length, text, check
abbrev pub module_file : Bytes → Script Accepted
module_file name = do
  bytes ← file module_limit name
  checked (module_read name (reading_of bytes))

-- the files of a topology's modules, in written order
abbrev pub module_names : Topology → List Bytes
module_names t = filter_map needs_module t.components

-- ---- validity

-- a topology without a fault, with its view
abbrev pub valid_with : Topology → List Accepted → Option TopoFault → Result Validated Bytes
valid_with t modules None = Ok (record { topology = t; view = view_of t modules })
valid_with t modules (Some fault) = Err (refusal_line (refusal.Topology fault))

-- a topology without a fault, and the modules that it names, in written order
pub record WithModules : Type 0 where
  pub valid : Validated
  pub modules : List Accepted

-- topology, modules, validity
abbrev pub with_modules : Bytes → Script WithModules
with_modules name = do
  t ← topology_file name
  modules ← each module_file (module_names t)
  valid ← checked (valid_with t modules (fault_of t modules))
  Script.gives (record { valid = valid; modules = modules })

-- the same for a command that needs no module
abbrev pub valid_topology : Bytes → Script Validated
valid_topology name = do
  found ← with_modules name
  Script.gives found.valid

-- ---- data

-- the refusal of data
abbrev pub data_refusal : View → DataFault → Option Refusal
data_refusal v data_faults.NotJson = Some refusal.NotJson
data_refusal v (data_faults.DataForm name row) = Some (refusal.DataForm name row)
data_refusal v (data_faults.TooMany name) = Some (refusal.DataTooMany name)
data_refusal v (data_faults.FdBroken fd first second) =
    Some (refusal.FdBroken (names_in v.attributes (fd_at v fd).from.bits) (names_in v.attributes (fd_at v fd).to.bits) first second)
data_refusal v data_faults.NoMemory = None

-- data as they were read
abbrev pub data_in : View → Result Data DataFault → Result Data Bytes
data_in v (Ok given) = Ok given
data_in v (Err fault) = Err (line_of (data_refusal v fault))

-- the most bytes of a data file: 16 MiB
abbrev pub data_limit : ℕ
data_limit = 16777216

-- a data file: read, length, JSON, rows, dependencies
abbrev pub data_file : Validated → Bytes → Script Data
data_file seen name = do
  bytes ← file data_limit name
  checked (data_in seen.view (data_of seen bytes))
