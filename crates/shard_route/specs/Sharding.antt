-- What a call of `shard` answers: the first fault that holds, or the copies in their topology.
use Rattle.std.specs.Prelude.{ℕ, ℤ, ◌≡◌, not, Bool, false, if◌then◌else◌, Option, None, Some, Result, Ok, Err, List, map, length}
use Rattle.std.specs.List.{list_any, zip, range_with_len}
use Rattle.std.specs.Option.{option_map_or}
use Rattle.blz_value.specs.Bits.{bit_of, meets}
use Rattle.blz_value.specs.Names.{place_of}
use Rattle.bloom_forms.specs.declared.program.Program.{Program}
use Rattle.bloom_forms.specs.declared.program.Program.TheVariants as program
use Rattle.bloom_forms.specs.Form.{Accepted}
use Rattle.bloom_forms.specs.Program.{output_columns}
use Rattle.bloom_forms.specs.Query.{Name, Formula}
use Rattle.bloom_forms.specs.Annotation.{gate_of_output}
use Rattle.topo_forms.specs.declared.fault.TopoFault.{TopoFault}
use Rattle.topo_forms.specs.declared.topology.Topology.{Topology}
use Rattle.topo_forms.specs.Regions.{is_in_cycle}
use Rattle.topo_forms.specs.Validity.{fault_of}
use Rattle.topo_forms.specs.View.{find_component, program_of}
use Rattle.topo_forms.specs.ViewOf.{view_of}
use Rattle.shard_route.specs.declared.fault.ShardFault.{ShardFault}
use Rattle.shard_route.specs.declared.fault.ShardFault.TheVariants as fault
use Rattle.shard_route.specs.declared.sharded.ShardFile.{ShardFile}
use Rattle.shard_route.specs.declared.sharded.Sharded.{Sharded}
use Rattle.shard_buckets.specs.Buckets.{bucket_tests}
use Rattle.shard_route.specs.Copies.{copy_of, has_deep_copy, lacks_column}
use Rattle.shard_route.specs.Routing.{numbers_to, file_of, sharded_topology, sharded_modules, has_bad_names}

-- ---- what is asked for

-- what a call is given beside the topology and its modules
pub record Asked : Type 0 where
  pub component : Name
  pub column : Name
  pub bounds : List ℤ

-- ---- gates

-- a set of attributes has the one of this name
abbrev pub has_attribute : (names : List Name) → Name → (set : ℕ) → Bool
has_attribute names column set = option_map_or (λ attribute. meets (bit_of attribute) set) (place_of names column) false

-- the gate of some output of the program lacks the attribute
abbrev pub lacks_in_gate : (names : List Name) → Name → Program → Bool
lacks_in_gate names column p =
    list_any (λ output. not (has_attribute names column (gate_of_output names p output))) (range_with_len 0 (length (output_columns p)))

-- ---- the answer

-- the files of the copies
abbrev pub files_of : Name → List ℕ → List Accepted → List ShardFile
files_of name numbers copies = map (λ pair. record { name = file_of name pair.0; «module» = pair.1 }) (zip numbers copies)

-- where the new topology has this fault, or none
abbrev pub with_fault : Option TopoFault → Sharded → Result Sharded ShardFault
with_fault None sharded = Ok sharded
with_fault (Some found) sharded = Err (fault.Topology found)

-- where these are the copies
abbrev pub with_copies : Topology → List Accepted → Name → List ℕ → List Accepted → Result Sharded ShardFault
with_copies t modules name numbers copies =
    if has_bad_names t name numbers then Err fault.Names
    else with_fault (fault_of (sharded_topology t name numbers) (sharded_modules name copies t.components modules))
    (record { topology = sharded_topology t name numbers; files = files_of name numbers copies })

-- where the component runs this module, and the tests of the buckets are these
abbrev pub with_tests : Topology → List Accepted → Name → Accepted → List Formula → Result Sharded ShardFault
with_tests t modules name a tests =
    if has_deep_copy a.form tests then Err fault.TooDeep
    else with_copies t modules name (numbers_to (length tests)) (map (copy_of a) tests)

-- where the component has this number and runs this module
abbrev pub with_module : Topology → List Accepted → Asked → (number : ℕ) → Accepted → Result Sharded ShardFault
with_module t modules asked number a =
    if is_in_cycle (view_of t modules) number then Err fault.InCycle
    else (if lacks_column asked.column a.form then Err fault.NoColumn
    else (if lacks_in_gate (view_of t modules).attributes asked.column (program.Module a) then Err fault.NotInGate
    else with_tests t modules asked.component a (bucket_tests asked.column asked.bounds)))

-- where the component has this number and this program
abbrev pub with_program : Topology → List Accepted → Asked → (number : ℕ) → Option Program → Result Sharded ShardFault
with_program t modules asked number (Some (program.Module a)) = with_module t modules asked number a
with_program t modules asked number (Some (program.Split columns split)) = Err fault.NoModule
with_program t modules asked number (Some (program.Latest columns keys)) = Err fault.NoModule
with_program t modules asked number (Some (program.Number columns)) = Err fault.NoModule
with_program t modules asked number None = Err fault.NoModule

-- where the component has this number
abbrev pub with_component : Topology → List Accepted → Asked → Option ℕ → Result Sharded ShardFault
with_component t modules asked None = Err fault.NoComponent
with_component t modules asked (Some number) = with_program t modules asked number (program_of (view_of t modules) number)

-- the first fault that holds, or the copies in their topology
abbrev pub sharded : Topology → List Accepted → Asked → Result Sharded ShardFault
sharded t modules asked = with_component t modules asked (find_component (view_of t modules) asked.component)

-- this answer, unless memory ran out
abbrev pub Answers : (answer : Result Sharded ShardFault) → Result Sharded ShardFault → Type 0
Answers answer (Err fault.NoMemory) = Unit {0}
Answers answer other = other ≡ answer
