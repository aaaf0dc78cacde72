-- A bench behind whose shells those of a net are put ends with them, and no shell is lost.
use Rattle.std.proofs.Common.{◌≡◌, ◌∙◌, ◌++◌, List, Option, map, sym, subst, ap}
use Rattle.std.specs.List.Sorted.{IsPermutation}
use Rattle.std.proofs.lemmas.List.{map-append}
use Rattle.bloom_forms.specs.declared.program.Program.{Program}
use Rattle.bloom_forms.specs.Step.{Sets}
use Rattle.bloom_eval.specs.declared.kind.ProgramKind.{ProgramKind}
use Rattle.inbox.specs.Executions.{Execution}
use Rattle.sched_net.specs.Bench.{instance_components}
use Rattle.sched_net.specs.Tables.{last_tables}
use Rattle.topo_forms.specs.View.{View, program_of}
use Rattle.blazes_commands.specs.Runs.Bench.{bench_states, HasInstances}

-- the last shells of a bench behind which those of a net are put
pub has_instances : {X : Type 0} (v : View) (x : Execution) (kinds kinds_after : List ProgramKind) (loaded : X → Option Program) (kept : X → Sets) (others shells all : List X) → all ≡ others ++ shells
    → map loaded shells ≡ map (program_of v) (instance_components v) → map kept shells ≡ last_tables v x
    → HasInstances v x (bench_states kinds kinds_after (map loaded all) (map kept all))
has_instances v x kinds kinds_after loaded kept others shells all put programs tables = record {
  programs = (map loaded others, ap (map loaded) put ∙ map-append loaded others shells ∙ ap (λ (l : List (Option Program)). map loaded others ++ l) programs);
  tables = (map kept others, ap (map kept) put ∙ map-append kept others shells ∙ ap (λ (l : List Sets). map kept others ++ l) tables);
}

-- no shell is lost where those of a net go behind the others
pub same_kinds : {X K : Type 0} (kind : X → K) (kinds : List K) (others opened shells all : List X) → IsPermutation kinds (map kind others ++ map kind opened) → map kind shells ≡ map kind opened → all ≡ others ++ shells
    → IsPermutation kinds (map kind all)
same_kinds {K = K} kind kinds others opened shells all before same put =
    subst (λ (l : List K). IsPermutation kinds l)
    (ap (λ (l : List K). map kind others ++ l) (sym same) ∙ sym (map-append kind others shells) ∙ sym (ap (map kind) put)) before
