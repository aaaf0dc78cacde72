-- Where words ask for a run of a topology of one instance, the last shell of the bench has its program and its tables.
-- The checks end in one way over files that are steady. They begin with the topology, which is known, and all that they
-- give is an execution of it. So the answer under Done or Incomplete says what the bench ends with.
use Rattle.std.proofs.Common.{◌≡◌, ◌⊎◌, ◌∙◌, ◌++◌, inl, inr, true, List, [], ◌∷◌, Option, None, Some, IsTrue, map, replicate, refl, sym, subst, ap}
use Rattle.std.specs.List.{flat_map}
use Rattle.std.specs.Option.{option_map_or}
use Rattle.blz_outside.specs.Files.{FileMap}
use Rattle.blz_outside.specs.MemFiles.{MemFilesView, bytes_at}
use Rattle.bloom_eval.specs.declared.kind.ProgramKind.{ProgramKind}
use Rattle.bloom_forms.specs.declared.program.Program.{Program}
use Rattle.bloom_forms.specs.Step.{Sets}
use Rattle.topo_forms.specs.Data.{Data}
use Rattle.blz_value.specs.NumberSets.{below}
use Rattle.topo_forms.specs.Valid.{Validated}
use Rattle.topo_forms.specs.View.{View, program_of, replicas_of}
use Rattle.inbox.specs.Executions.{Execution}
use Rattle.inbox.specs.Wiring.{instance_for}
use Rattle.sched_net.specs.Bench.{instance_components}
use Rattle.sched_net.specs.Tables.{last_tables, tables_at}
use Rattle.blazes_words.specs.Words.{Asked, RunFiles, request_of}
use Rattle.command_checks.specs.Script.{Bytes, Script, Ending, ◌>>=◌}
use Rattle.command_checks.specs.Script.Script.{gives, refuses, reads}
use Rattle.command_checks.specs.Script.Ending.{gave, refused, failed}
use Rattle.command_checks.specs.Ends.{FilesStates, Ends, ended}
use Rattle.command_checks.specs.Reply.{Answer}
use Rattle.command_checks.specs.declared.status.Status.{Status}
use Rattle.command_checks.specs.declared.status.Status.TheVariants.{Done, Incomplete}
use Rattle.blazes_commands.specs.Runs.Bench.{BenchStates, EndsWith, HasInstances}
use Rattle.blazes_commands.specs.Runs.Contents.{HasRun}
use Rattle.blazes_commands.specs.Answer.{Answers}
use Rattle.blazes_commands.specs.Checks as check
use Rattle.blazes_commands.specs.Commands.{Work, Says, script, running}
use Rattle.blazes_commands.specs.Commands.Work.{ran}
use Rattle.blazes_cli.specs.Answer.{IsReply}
use Rattle.blazes_cli.proofs.SteadyLemmas.{steady_ends}
use Rattle.worked_calls.specs.Told.{told_of}
use Rattle.worked_rows.specs.Runs.{HasOneTable, RunsOneTable, LeavesOneTable}
use Rattle.worked_rows.proofs.TableCounts.{counted_after}

-- ---- scripts

-- the fact of what an ending gave; of others nothing is said
abbrev OnGave : {A : Type 0} → (A → Type 0) → Ending A → Type 0
OnGave P (gave x) = P x
OnGave P (refused line) = Unit {0}
OnGave P (failed name) = Unit {0}

-- the fact of what an ending gave, and none of another
abbrev OfGiven : {A : Type 0} → (A → Type 0) → Ending A → Type 0
OfGiven P (gave x) = P x
OfGiven P (refused line) = ⊥
OfGiven P (failed name) = ⊥

on_read : {B : Type 0} (P : B → Type 0) (o : Option Bytes) (go : Bytes → Ending B) (name : Bytes) → ((b : Bytes) → OnGave P (go b)) → OnGave P (option_map_or go o (failed name))
on_read P None go name all = tt
on_read P (Some b) go name all = all b

-- a fact of all that goes on after a part is one of the whole
all_then : {A B : Type 0} (held : FileMap) (s : Script A) (next : A → Script B) (P : B → Type 0) → ((x : A) → OnGave P (ended held (next x))) → OnGave P (ended held (s >>= next))
all_then held (gives x) next P all = all x
all_then held (refuses line) next P all = tt
all_then held (reads name after) next P all =
    on_read P (held name) (λ b. ended held (after b >>= next)) name (λ b. all_then held (after b) next P all)

read_then : {A B : Type 0} (o : Option Bytes) (first : Bytes → Ending A) (whole : Bytes → Ending B) (name : Bytes) (x : A) (target : Ending B)
    → ((b : Bytes) → first b ≡ gave x → whole b ≡ target) → option_map_or first o (failed name) ≡ gave x → option_map_or whole o (failed name) ≡ target
read_then None first whole name x target each is = absurd (subst (OfGiven (λ z. Unit {0})) (sym is) tt)
read_then (Some b) first whole name x target each is = each b is

-- where a part gives x, the whole ends as what goes on with x
gave_then : {A B : Type 0} (held : FileMap) (s : Script A) (next : A → Script B) (x : A) → ended held s ≡ gave x → ended held (s >>= next) ≡ ended held (next x)
gave_then held (gives y) next x is = subst (OfGiven (λ z. ended held (next y) ≡ ended held (next z))) is refl
gave_then held (refuses line) next x is = absurd (subst (OfGiven (λ z. Unit {0})) (sym is) tt)
gave_then held (reads name after) next x is =
    read_then (held name) (λ b. ended held (after b)) (λ b. ended held (after b >>= next)) name x (ended held (next x)) (λ b here. gave_then held (after b) next x here) is

-- ---- the checks of a run

-- an execution of a topology
abbrev IsRunOf : View → Work → Type 0
IsRunOf v work = (given : Data) × (x : Execution) × (work ≡ ran v given x)

run_gives : (held : FileMap) (kinds : List ProgramKind) (files : RunFiles) (seen : Validated) → ended held (check.valid_topology files.topology) ≡ gave seen
    → OnGave (IsRunOf seen.view) (ended held (script kinds (Asked.run files)))
run_gives held kinds files seen valid =
    let v = seen.view in
    let after_data : Data → Script Work = λ given. check.schedule_file files.schedule >>= λ lines. running kinds v given (check.execution v given lines) in
    let after_topology : Validated → Script Work = λ seen. check.data_file seen files.given >>= λ given. check.schedule_file files.schedule >>= λ lines. running kinds seen.view given (check.execution seen.view given lines) in
    subst (OnGave (IsRunOf v)) (sym (gave_then held (check.valid_topology files.topology) after_topology seen valid))
    (all_then held (check.data_file seen files.given) after_data (IsRunOf v) (λ given.
    all_then held (check.schedule_file files.schedule) (λ lines. running kinds v given (check.execution v given lines)) (IsRunOf v) (λ lines.
    all_then held (check.opening v kinds) (λ opened. check.execution v given lines >>= λ x. gives (ran v given x)) (IsRunOf v) (λ opened.
    all_then held (check.execution v given lines) (λ x. gives (ran v given x)) (IsRunOf v) (λ x. (given, x, refl))))))

-- ---- the bench

one_instance : (v : View) → HasOneTable v → instance_components v ≡ 0 ∷ []
one_instance v one =
    ap (λ n. flat_map (λ c. replicate (replicas_of v c) c) (below n)) one.components
    ∙ ap (λ n. replicate n 0 ++ []) one.replicas

one_tables : (v : View) (x : Execution) → HasOneTable v → last_tables v x ≡ tables_at v x 0 0 ∷ []
one_tables v x one =
    ap (λ n. flat_map (λ c. map (tables_at v x c) (below (replicas_of v c))) (below n)) one.components
    ∙ ap (λ n. map (tables_at v x 0) (below n) ++ []) one.replicas

left_by : (v : View) (x : Execution) (bench : BenchStates) → HasOneTable v → HasInstances v x bench → LeavesOneTable bench.loaded_after bench.kept_after
left_by v x bench one instances = record {
  program = one.program;
  last_loaded = subst (λ last. EndsWith last bench.loaded_after) (ap (map (program_of v)) (one_instance v one) ∙ ap (λ p. p ∷ []) one.runs) instances.programs;
  tables = tables_at v x 0 0;
  last_kept = subst (λ last. EndsWith last bench.kept_after) (one_tables v x one) instances.tables;
  one = counted_after (instance_for v 0 0) one.program one.runs (x.logs 0) (x.lives 0 0) ∙ one.tables;
}

-- a run is done, or it is incomplete
abbrev IsRunStatus : Status → Type 0
IsRunStatus status = (status ≡ Done) ⊎ (status ≡ Incomplete)

left_at : (v : View) (e : Ending Work) (bench : BenchStates) (answer : Answer) → HasOneTable v → OnGave (IsRunOf v) e → Answers e bench answer → IsRunStatus answer.status → LeavesOneTable bench.loaded_after bench.kept_after
left_at v (gave work) bench answer one run says status =
    let has : HasRun v run.0 run.1 bench answer = subst (λ work. Says work bench answer) run.2 says in
    left_by v run.1 bench one has.instances
left_at v (refused line) bench answer one run says status =
    let is = ap (λ a. a.status) says in
    absurd (elim status [
      | inl done ↦ (cc)
      | inr not_done ↦ (cc)
    ])
left_at v (failed name) bench answer one run says status =
    let is = ap (λ a. a.status) says in
    absurd (elim status [
      | inl done ↦ (cc)
      | inr not_done ↦ (cc)
    ])

left : (held : FileMap) (words : List Bytes) (files : FilesStates) (bench : BenchStates) (answer : Answer) → RunsOneTable held words → files.before.told ≡ record { held = Some held; steady = true }
    → IsReply (request_of words) files bench answer → IsRunStatus answer.status → LeavesOneTable bench.loaded_after bench.kept_after
left held words files bench answer runs told reply status =
    let asked = Asked.run runs.files in
    let answered = subst (λ asked. IsReply asked files bench answer) runs.asks reply in
    let ending = steady_ends held (script bench.kinds asked) answered.ending (subst (λ t. Ends t (script bench.kinds asked) answered.ending) told answered.came.ends) in
    left_at runs.seen.view answered.ending bench answer runs.one
    (subst (OnGave (IsRunOf runs.seen.view)) (sym ending) (run_gives held bench.kinds runs.files runs.seen runs.valid))
    answered.answers status

-- ---- what is known before

-- steady files in memory tell what they hold
told_all : (files : MemFilesView) → IsTrue (told_of files).steady → told_of files ≡ record { held = Some (bytes_at files.files); steady = true }
told_all files steady = ap (λ b. record { held = Some (bytes_at files.files); steady = b }) steady

-- where words ask for a run, and the topology that its files give has one instance with one table, it is a run of such a topology
pub runs_found : (before after : MemFilesView) (words : List Bytes) (run : RunFiles) (seen : Validated) → request_of words ≡ Some (Asked.run run) → IsTrue (told_of before).steady → told_of after ≡ told_of before
    → Ends (told_of before) (check.valid_topology run.topology) (gave seen) → HasOneTable seen.view → RunsOneTable (bytes_at after.files) words
runs_found before after words run seen asks steady same ends one =
    let now = subst (λ told. IsTrue told.steady) (sym same) steady in
    record {
      files = run;
      asks = asks;
      seen = seen;
      valid = sym (steady_ends (bytes_at after.files) (check.valid_topology run.topology) (gave seen)
          (subst (λ told. Ends told (check.valid_topology run.topology) (gave seen)) (told_all after now) (subst (λ told. Ends told (check.valid_topology run.topology) (gave seen)) (sym same) ends)));
      one = one;
    }

-- ---- the shells after a call

-- the last of the shells that a run leaves has its program and its tables
pub left_in : {X : Type 0} (loaded : X → Option Program) (kept : X → Sets) (before : MemFilesView) (words : List Bytes) (files : FilesStates) (bench : BenchStates) (answer : Answer) (shells : List X)
    → RunsOneTable (bytes_at before.files) words → IsTrue (told_of before).steady → IsReply (request_of words) files bench answer → files.before.told ≡ told_of before → IsRunStatus answer.status
    → bench.loaded_after ≡ map loaded shells → bench.kept_after ≡ map kept shells → LeavesOneTable (map loaded shells) (map kept shells)
left_in loaded kept before words files bench answer shells runs steady reply told status has_loaded has_kept =
    let leaves = left (bytes_at before.files) words files bench answer runs (told ∙ told_all before steady) reply status in
    subst (λ l. LeavesOneTable l (map kept shells)) has_loaded (subst (λ k. LeavesOneTable bench.loaded_after k) has_kept leaves)
