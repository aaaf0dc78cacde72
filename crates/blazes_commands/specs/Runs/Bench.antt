-- A bench before and after a call: as many shells of each kind, and after a run its last shells are those of the instances.
use Rattle.std.specs.Prelude.{◌≡◌, ◌++◌, List, Option, map}
use Rattle.std.specs.List.Sorted.{IsPermutation}
use Rattle.bloom_forms.specs.declared.program.Program.{Program}
use Rattle.bloom_forms.specs.Step.{Sets}
use Rattle.bloom_eval.specs.declared.kind.ProgramKind.{ProgramKind}
use Rattle.topo_forms.specs.View.{View, program_of}
use Rattle.inbox.specs.Executions.{Execution}
use Rattle.sched_net.specs.Bench.{instance_components}
use Rattle.sched_net.specs.Tables.{last_tables}

-- the kinds of its shells before and after, and what they have loaded and keep after it, shell by shell
pub record BenchStates : Type 0 where
  pub kinds : List ProgramKind
  pub kinds_after : List ProgramKind
  pub loaded_after : List (Option Program)
  pub kept_after : List Sets

abbrev pub bench_states : (kinds kinds_after : List ProgramKind) → List (Option Program) → List Sets → BenchStates
bench_states kinds kinds_after loaded_after kept_after =
    record { kinds = kinds; kinds_after = kinds_after; loaded_after = loaded_after; kept_after = kept_after }

-- as many shells of each kind as before, in any order
abbrev pub HasSameKinds : BenchStates → Type 0
HasSameKinds bench = IsPermutation bench.kinds bench.kinds_after

-- a list ends with these
abbrev pub EndsWith : {X : Type 0} → (last list : List X) → Type 0
EndsWith {X} last list = (first : List X) × (list ≡ first ++ last)

-- the last shells are those of the instances, in component and replica order, and keep the tables with which these end
pub record HasInstances (v : View) (x : Execution) (bench : BenchStates) : Type 0 where
  pub programs : EndsWith (map (program_of v) (instance_components v)) bench.loaded_after
  pub tables : EndsWith (last_tables v x) bench.kept_after
