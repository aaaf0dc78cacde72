-- Files that are all there need no reads: a script over them ends as it does at a source that tells them.
use Rattle.std.proofs.Common.{◌≡◌, inl, inr, true, Some, Result, Ok, Err, refl, sym, subst}
use Rattle.std.specs.Result.{IsErrAnd}
use Rattle.coord_modes.specs.Plan.{planned}
use Rattle.topo_forms.specs.Valid.{Validated}
use Rattle.topo_forms.specs.View.{View}
use Rattle.command_checks.specs.Ends.{Told, FilesStates, files_states, Came, Ends}
use Rattle.command_checks.specs.Ran.{Ran, RanAtOnce}
use Rattle.command_checks.specs.Script.{Bytes, Script, Ending}
use Rattle.command_checks.specs.Script.Script.{gives, refuses, reads}
use Rattle.command_checks.specs.Script.Ending.{gave, refused, failed}
use Rattle.command_checks.specs.declared.stop.Stop.{Stop}
use Rattle.command_checks.specs.declared.stop.Stop.TheVariants.{Refused, Failed, NoMemory}
use Rattle.command_checks.proofs.ScriptLemmas.{came_at_once, came_then, stop_handed, stop_then}
use Rattle.blazes_commands.specs.Labels.BuiltIn.{over, planned_count, word_count}

-- what a source tells that has a file under each name
abbrev pub all_told : (Bytes → Bytes) → Told
all_told files = record { held = Some (λ name. Some (files name)); steady = true }

module _ {A : Type 0} (files : Bytes → Bytes) where
  ends_over : (told : Told) (s : Script A) (e : Ending A) → Ends (all_told files) s e → Ends told (over files s) e
  ends_over told (gives x) e is = is
  ends_over told (refuses line) e is = is
  ends_over told (reads name next) e (inl failing) = absurd (let never = failing.1 refl in cc)
  ends_over told (reads name next) e (inr given) = ends_over told (next (files name)) e (subst (λ (bytes : Bytes). Ends (all_told files) (next bytes) e) given.1.told given.2)

  -- no read of it fails
  never_fails : (s : Script A) (name : Bytes) → Ends (all_told files) s (failed name) → ⊥
  never_fails (gives x) name is = cc
  never_fails (refuses line) name is = cc
  never_fails (reads other next) name (inl failing) = let never = failing.1 refl in cc
  never_fails (reads other next) name (inr given) = never_fails (next given.0) name given.2

  module _ (states : FilesStates) (s : Script A) (told : states.before.told ≡ all_told files) where
    came : (e : Ending A) → Came states s e → Ends (all_told files) s e
    came e is = subst (λ (t : Told). Ends t s e) told is.ends

    pub ran_over : {X : Type 0} (view : X → A) (result : Result X Stop) → Ran view states result s → RanAtOnce view result (over files s)
    ran_over view (Ok x) is at = record { kept = refl; ends = ends_over at.told s (gave (view x)) (came (gave (view x)) is); counts = refl }
    ran_over view (Err (Refused line)) is at = record { kept = refl; ends = ends_over at.told s (refused line.items) (came (refused line.items) is); counts = refl }
    ran_over view (Err (Failed name)) is at = absurd (never_fails s name (came (failed name) is))
    ran_over view (Err NoMemory) is at = tt

-- ---- its plan

-- the plan of the built-in word count stops where this does
abbrev on_count : Validated → Script View
on_count seen = gives (planned seen.view)

pub count_stops : {X Y : Type 0} (view : X → Validated) (out : Y → View) (result : Result Y Stop) (stop : Stop) → IsErrAnd result (λ given. given ≡ stop) → RanAtOnce view (Err stop) word_count → RanAtOnce out result planned_count
unfolding planned_count
count_stops view out result stop is stopped s = stop_handed out (files_states s s) planned_count result stop is (stop_then (files_states s s) stop word_count on_count (stopped s))

pub count_lost : {Y : Type 0} (out : Y → View) (result : Result Y Stop) → IsErrAnd result (λ stop. stop ≡ NoMemory) → RanAtOnce out result planned_count
count_lost out result is s = stop_handed out (files_states s s) planned_count result NoMemory is tt

pub count_planned : {X Y : Type 0} (view : X → Validated) (out : Y → View) (x : X) (y : Y) → RanAtOnce view (Ok x) word_count → out y ≡ planned (view x).view → RanAtOnce out (Ok y) planned_count
unfolding planned_count
count_planned view out x y counts is s =
    subst (λ (v : View). Came (files_states s s) planned_count (gave v)) (sym is)
    (came_then s s s word_count on_count (view x) (gave (planned (view x).view)) (counts s) (came_at_once s (planned (view x).view)))
