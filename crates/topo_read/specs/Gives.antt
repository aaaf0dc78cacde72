-- What a reader in the code returned, beside what reading gives.
use Rattle.std.specs.Prelude.{◌≡◌, Option, Some, None, Result, Ok, Err, String}
use Rattle.std.specs.BTreeMap.{BTreeMap}
use Rattle.std.specs.declared.alloc.Global.{Global}
use Rattle.toml.specs.Data.{Members}
use Rattle.toml.specs.View.{table_view}
use Rattle.toml.specs.declared.value.Value.{Value}
use Rattle.topo_read.specs.declared.fault.ValueFault.{ValueFault}
use Rattle.topo_read.specs.declared.fault.ValueFault.TheVariants as value
use Rattle.topo_read.specs.declared.fault.TopoTextFault.{TopoTextFault}
use Rattle.topo_read.specs.declared.fault.TopoTextFault.TheVariants as text
use Rattle.topo_read.specs.Fields.{Path}

-- what a value gives, seen by view, unless memory ran out
abbrev pub GivesValue : {X Y : Type 0} → (X → Y) → Result X ValueFault → Option Y → Type 0
GivesValue view (Ok x) read = read ≡ Some (view x)
GivesValue view (Err value.Break) read = read ≡ None
GivesValue view (Err value.NoMemory) read = Unit {0}

-- what a table gives, seen by view, unless memory ran out
abbrev pub Gives : {X Y : Type 0} → (X → Y) → Result X TopoTextFault → Result Y Path → Type 0
Gives view (Ok x) read = read ≡ Ok (view x)
Gives view (Err (text.Form path)) read = read ≡ Err path
Gives view (Err text.NotToml) read = ⊥
Gives view (Err text.NoMemory) read = Unit {0}

-- a break at this place, unless memory ran out
abbrev pub IsBreakAt : Path → TopoTextFault → Type 0
IsBreakAt place (text.Form path) = path ≡ place
IsBreakAt place text.NotToml = ⊥
IsBreakAt place text.NoMemory = Unit {0}

-- the fault of a value as one of the file: a break is at this place
abbrev pub IsFaultAt : Path → ValueFault → TopoTextFault → Type 0
IsFaultAt place value.Break fault = IsBreakAt place fault
IsFaultAt place value.NoMemory fault = fault ≡ text.NoMemory

-- the document that the bytes are, unless memory ran out
abbrev pub GivesDocument : Result (BTreeMap (String Global) Value) TopoTextFault → Option Members → Type 0
GivesDocument (Ok top) read = read ≡ Some (table_view top)
GivesDocument (Err text.NotToml) read = read ≡ None
GivesDocument (Err (text.Form path)) read = ⊥
GivesDocument (Err text.NoMemory) read = Unit {0}
