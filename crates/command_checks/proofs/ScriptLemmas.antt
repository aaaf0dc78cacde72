-- A script followed by another ends as the first does, or, where that gives something, as the second does.
use Rattle.std.proofs.Common.{◌≡◌, ◌∙◌, inl, inr, Ok, Err, Result, refl, sym, subst}
use Rattle.std.specs.Result.{IsErrAnd}
use Rattle.command_checks.specs.Script.{Bytes, Script, Ending, ◌>>=◌}
use Rattle.command_checks.specs.Script.Script.{gives, refuses, reads}
use Rattle.command_checks.specs.Script.Ending.{gave, refused, failed}
use Rattle.command_checks.specs.Ends.{Told, Source, FilesStates, files_states, Counts, Came, Ends}
use Rattle.command_checks.specs.FileChecks.{checked}
use Rattle.command_checks.specs.Ran.{Stopped, Ran, Gives}
use Rattle.command_checks.specs.declared.stop.Stop.{Stop}
use Rattle.command_checks.specs.declared.stop.Stop.TheVariants.{Refused, Failed, NoMemory}

-- the fact of what an ending gave, and none of another
abbrev OfGiven : {A : Type 0} → (A → Type 0) → Ending A → Type 0
OfGiven P (gave x) = P x
OfGiven P (refused line) = ⊥
OfGiven P (failed name) = ⊥

-- a part that gives x, and what goes on with x
pub ends_then : {A B : Type 0} (files : Told) (s : Script A) (next : A → Script B) (x : A) (e : Ending B)
    → Ends files s (gave x) → Ends files (next x) e → Ends files (s >>= next) e
ends_then files (gives y) next x e is rest = subst (OfGiven (λ z. Ends files (next z) e)) is rest
ends_then files (refuses line) next x e is rest = absurd (subst (OfGiven (λ z. Unit {0})) is tt)
ends_then files (reads name after) next x e (inl failing) rest = absurd (subst (OfGiven (λ z. Unit {0})) failing.0 tt)
ends_then files (reads name after) next x e (inr given) rest = inr (given.0, given.1, ends_then files (after given.0) next x e given.2 rest)

-- a part that is refused, and what would have gone on
pub refused_then : {A B : Type 0} (files : Told) (s : Script A) (next : A → Script B) (line : Bytes)
    → Ends files s (refused line) → Ends files (s >>= next) (refused line)
refused_then files (gives y) next line is = absurd (cc)
refused_then files (refuses other) next line is = cc
refused_then files (reads name after) next line (inl failing) = absurd (cc)
refused_then files (reads name after) next line (inr given) = inr (given.0, given.1, refused_then files (after given.0) next line given.2)

-- a part whose read fails, and what would have gone on
pub failed_then : {A B : Type 0} (files : Told) (s : Script A) (next : A → Script B) (name : Bytes)
    → Ends files s (failed name) → Ends files (s >>= next) (failed name)
failed_then files (gives y) next name is = absurd (cc)
failed_then files (refuses line) next name is = absurd (cc)
failed_then files (reads other after) next name (inl failing) = inl (cc, failing.1)
failed_then files (reads other after) next name (inr given) = inr (given.0, given.1, failed_then files (after given.0) next name given.2)

-- the counts of an ending after reads that left the count
pub counts_after : {A : Type 0} (a b c : Source) (e : Ending A) → b.faults ≡ a.faults → Counts (files_states b c) e → Counts (files_states a c) e
counts_after a b c (gave x) same counts = counts ∙ same
counts_after a b c (refused line) same counts = counts ∙ same
counts_after a b c (failed name) same counts = subst (λ n. Counts {A = Bytes} (files_states (record a { faults = n }) c) (failed name)) same counts

-- a part that gives x, and what goes on with x
pub came_then : {A B : Type 0} (a b c : Source) (s : Script A) (next : A → Script B) (x : A) (e : Ending B)
    → Came (files_states a b) s (gave x) → Came (files_states b c) (next x) e → Came (files_states a c) (s >>= next) e
came_then a b c s next x e first rest = record {
  kept = rest.kept ∙ first.kept;
  ends = ends_then a.told s next x e first.ends (subst (λ told. Ends told (next x) e) first.kept rest.ends);
  counts = counts_after a b c e first.counts rest.counts;
}

-- a part that stops, and what would have gone on
pub stop_then : {A B : Type 0} (files : FilesStates) (stop : Stop) (s : Script A) (next : A → Script B)
    → Stopped files stop s → Stopped files stop (s >>= next)
stop_then files (Refused line) s next came =
    record { kept = came.kept; ends = refused_then files.before.told s next line.items came.ends; counts = came.counts }
stop_then files (Failed name) s next came =
    record { kept = came.kept; ends = failed_then files.before.told s next name came.ends; counts = came.counts }
stop_then files NoMemory s next came = tt

-- a part that gives x, and a stop after it
pub then_stop : {A B : Type 0} (a b c : Source) (s : Script A) (next : A → Script B) (x : A) (stop : Stop)
    → Came (files_states a b) s (gave x) → Stopped (files_states b c) stop (next x) → Stopped (files_states a c) stop (s >>= next)
then_stop a b c s next x (Refused line) first rest = came_then a b c s next x (refused line.items) first rest
then_stop a b c s next x (Failed name) first rest = came_then a b c s next x (failed name) first rest
then_stop a b c s next x NoMemory first rest = tt

-- a part that gives x, and a part that runs what goes on with x
pub then_ran : {X A B : Type 0} (view : X → B) (a b c : Source) (s : Script A) (next : A → Script B) (x : A) (result : Result X Stop)
    → Came (files_states a b) s (gave x) → Ran view (files_states b c) result (next x) → Ran view (files_states a c) result (s >>= next)
then_ran view a b c s next x (Ok y) first rest = came_then a b c s next x (gave (view y)) first rest
then_ran view a b c s next x (Err stop) first rest = then_stop a b c s next x stop first rest

-- a stop that is handed on
pub stop_handed : {X A : Type 0} (view : X → A) (files : FilesStates) (s : Script A) (result : Result X Stop) (stop : Stop)
    → IsErrAnd result (λ given. given ≡ stop) → Stopped files stop s → Ran view files result s
stop_handed view files s (Ok x) stop is stopped = absurd is
stop_handed view files s (Err given) stop is stopped = subst (λ given. Stopped files given s) (sym is) stopped

-- want of memory stops each script
pub memory_stops : {A : Type 0} (files : FilesStates) (script : Script A) (stop : Stop) → stop ≡ NoMemory → Stopped files stop script
memory_stops files script stop is = subst (λ given. Stopped files given script) (sym is) tt

-- a script that reads nothing leaves the source as it is
pub came_at_once : {A : Type 0} (files : Source) (x : A) → Came (files_states files files) (gives x) (gave x)
came_at_once files x = record { kept = refl; ends = refl; counts = refl }

-- a check of what was read gives what it says
pub came_checked : {A : Type 0} (files : Source) (given : Result A Bytes) (x : A) → given ≡ Ok x → Came (files_states files files) (checked given) (gave x)
came_checked files given x is = subst (λ r. Came (files_states files files) (checked r) (gave x)) (sym is) (record { kept = refl; ends = refl; counts = refl })

-- a check of what was read refuses it with the line that it says
pub came_refused : {A : Type 0} (files : Source) (given : Result A Bytes) (line : Bytes) → given ≡ Err line → Came (files_states files files) (checked given) (refused line)
came_refused files given line is = subst (λ r. Came (files_states files files) (checked r) (refused line)) (sym is) (record { kept = refl; ends = refl; counts = refl })

-- a check of what was read ends as its script
pub gives_ran : {X A : Type 0} (view : X → A) (files : Source) (result : Result X Stop) (given : Result A Bytes)
    → Gives view result given → Ran view (files_states files files) result (checked given)
gives_ran view files (Ok x) given is = came_checked files given (view x) is
gives_ran view files (Err (Refused line)) given is = came_refused files given line.items is
gives_ran view files (Err (Failed name)) given is = absurd is
gives_ran view files (Err NoMemory) given is = tt
