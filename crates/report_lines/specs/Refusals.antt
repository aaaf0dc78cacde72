-- The line of each refusal.
use Rattle.std.specs.Prelude.{ℕ, List, [], ◌∷◌, ◌++◌, codes}
use Rattle.std.specs.Fmt.{decimal}
use Rattle.blz_value.specs.Text.{escaped, record_text}
use Rattle.bloom_forms.specs.declared.fault.ModuleKind.{ModuleKind}
use Rattle.bloom_forms.specs.declared.fault.ModuleKind.TheVariants as module_kinds
use Rattle.bloom_forms.specs.declared.fault.ModulePlace.{ModulePlace}
use Rattle.bloom_forms.specs.declared.fault.ModulePlace.TheVariants as module_places
use Rattle.topo_forms.specs.declared.fault.TopoKind.{TopoKind}
use Rattle.topo_forms.specs.declared.fault.TopoKind.TheVariants as topology_kinds
use Rattle.topo_forms.specs.declared.fault.TopoPlace.{TopoPlace}
use Rattle.topo_forms.specs.declared.fault.TopoPlace.TheVariants as topology_places
use Rattle.report_lines.specs.declared.refusal.EventKind.{EventKind}
use Rattle.report_lines.specs.declared.refusal.EventKind.TheVariants as event_kinds
use Rattle.report_lines.specs.declared.refusal.MakeKind.{MakeKind}
use Rattle.report_lines.specs.declared.refusal.MakeKind.TheVariants as make_kinds
use Rattle.report_lines.specs.declared.refusal.ShardKind.{ShardKind}
use Rattle.report_lines.specs.declared.refusal.ShardKind.TheVariants as shard_kinds
use Rattle.report_lines.specs.declared.refusal.WhyKind.{WhyKind}
use Rattle.report_lines.specs.declared.refusal.WhyKind.TheVariants as why_kinds
use Rattle.report_lines.specs.declared.refusal.Refusal.{Refusal}
use Rattle.report_lines.specs.declared.refusal.Refusal.TheVariants.{TooLong, NotToml, Form, ModuleText, Module, Topology, NotJson, DataForm, DataTooMany, FdBroken, ScheduleText, NoBody, NoShell, Event, Make, Shard, SecondScheduleText, SecondEvent, Why}
use Rattle.report_lines.specs.Words.{Text, names_text, line}

-- ---- kinds: each is printed by its name

abbrev pub module_kind : ModuleKind → Text
module_kind module_kinds.TooMany = codes "TooMany"
module_kind module_kinds.Twice = codes "Twice"
module_kind module_kinds.Unknown = codes "Unknown"
module_kind module_kinds.Columns = codes "Columns"
module_kind module_kinds.Recursive = codes "Recursive"
module_kind module_kinds.MomentaryMix = codes "MomentaryMix"
module_kind module_kinds.MixedScratch = codes "MixedScratch"

abbrev pub topology_kind : TopoKind → Text
topology_kind topology_kinds.TooMany = codes "TooMany"
topology_kind topology_kinds.Twice = codes "Twice"
topology_kind topology_kinds.Unknown = codes "Unknown"
topology_kind topology_kinds.Columns = codes "Columns"
topology_kind topology_kinds.ReplicaMismatch = codes "ReplicaMismatch"
topology_kind topology_kinds.SealInCycle = codes "SealInCycle"
topology_kind topology_kinds.Understated = codes "Understated"

abbrev pub event_kind : EventKind → Text
event_kind event_kinds.NoInstance = codes "NoInstance"
event_kind event_kinds.NoMessage = codes "NoMessage"
event_kind event_kinds.NothingToTake = codes "NothingToTake"
event_kind event_kinds.TooManyRows = codes "TooManyRows"
event_kind event_kinds.TooManyMessages = codes "TooManyMessages"

abbrev pub make_kind : MakeKind → Text
make_kind make_kinds.TooManyEvents = codes "TooManyEvents"
make_kind make_kinds.TooManyRows = codes "TooManyRows"
make_kind make_kinds.TooManyMessages = codes "TooManyMessages"

abbrev pub shard_kind : ShardKind → Text
shard_kind shard_kinds.NoComponent = codes "NoComponent"
shard_kind shard_kinds.NoModule = codes "NoModule"
shard_kind shard_kinds.InCycle = codes "InCycle"
shard_kind shard_kinds.NoColumn = codes "NoColumn"
shard_kind shard_kinds.NotInGate = codes "NotInGate"
shard_kind shard_kinds.TooDeep = codes "TooDeep"
shard_kind shard_kinds.Names = codes "Names"

abbrev pub why_kind : WhyKind → Text
why_kind why_kinds.TooManyEvents = codes "TooManyEvents"
why_kind why_kinds.NoStream = codes "NoStream"
why_kind why_kinds.NoRecord = codes "NoRecord"

-- ---- places

-- a word, and a number behind it
abbrev pub numbered : Text → ℕ → Text
numbered word n = word ++ codes " " ++ decimal n

abbrev pub module_place : ModulePlace → Text
module_place (module_places.Collection n) = numbered (codes "collection") n
module_place (module_places.Rule n) = numbered (codes "rule") n

abbrev pub topology_place : TopoPlace → Text
topology_place (topology_places.Source n) = numbered (codes "source") n
topology_place (topology_places.Component n) = numbered (codes "component") n
topology_place (topology_places.Stream n) = numbered (codes "stream") n
topology_place (topology_places.Fd n) = numbered (codes "fd") n

-- a side of a dependency: one attribute by its name, more as a set
abbrev pub side_text : List Text → Text
side_text [] = names_text []
side_text (name ∷ []) = name
side_text (name ∷ other ∷ others) = names_text (name ∷ other ∷ others)

-- ---- the table

-- the name of a refusal and the words behind it; files, paths and sources stand with their escapes
abbrev pub refusal_row : Refusal → Text × List Text
refusal_row (TooLong file) = (codes "TooLong", escaped file ∷ [])
refusal_row NotToml = (codes "NotToml", [])
refusal_row (Form path) = (codes "Form", escaped path ∷ [])
refusal_row (ModuleText file line column) = (codes "ModuleText", escaped file ∷ decimal line ∷ decimal column ∷ [])
refusal_row (Module file fault) = (codes "Module", escaped file ∷ module_kind fault.kind ∷ module_place fault.place ∷ [])
refusal_row (Topology fault) = (codes "Topology", topology_kind fault.kind ∷ topology_place fault.place ∷ [])
refusal_row (Shard kind) = (codes "Shard", shard_kind kind ∷ [])
refusal_row NotJson = (codes "NotJson", [])
refusal_row (DataForm source row) = (codes "DataForm", escaped source ∷ decimal row ∷ [])
refusal_row (DataTooMany source) = (codes "DataTooMany", escaped source ∷ [])
refusal_row (FdBroken from to first second) = (codes "FdBroken", side_text from ∷ side_text to ∷ record_text first ∷ record_text second ∷ [])
refusal_row (ScheduleText line) = (codes "ScheduleText", decimal line ∷ [])
refusal_row (SecondScheduleText line) = (codes "SecondScheduleText", decimal line ∷ [])
refusal_row (Why kind) = (codes "Why", why_kind kind ∷ [])
refusal_row (NoBody component) = (codes "NoBody", component ∷ [])
refusal_row (NoShell component) = (codes "NoShell", component ∷ [])
refusal_row (Event line kind) = (codes "Event", decimal line ∷ event_kind kind ∷ [])
refusal_row (SecondEvent line kind) = (codes "SecondEvent", decimal line ∷ event_kind kind ∷ [])
refusal_row (Make event kind) = (codes "Make", decimal event ∷ make_kind kind ∷ [])

abbrev pub refusal_line : Refusal → Text
refusal_line refusal = line (codes "refused" ∷ (refusal_row refusal).0 ∷ (refusal_row refusal).1)
