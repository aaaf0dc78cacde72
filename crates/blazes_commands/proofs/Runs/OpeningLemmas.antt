-- A command that opens a net stops with the line of the check of openings, or goes on with the net.
use Rattle.std.proofs.Common.{◌≡◌, ◌∙◌, ℕ, List, Option, None, Result, Ok, Err, map, sym, subst, ap}
use Rattle.std.specs.Result.{IsErrAnd}
use Rattle.bloom_eval.specs.declared.kind.ProgramKind.{ProgramKind}
use Rattle.report_lines.specs.declared.refusal.Refusal.{Refusal}
use Rattle.report_lines.specs.declared.refusal.Refusal.TheVariants as refusal
use Rattle.sched_net.specs.Bench.{fault_of_opening, OpensAs}
use Rattle.sched_net.specs.declared.fault.OpenFault.{OpenFault}
use Rattle.sched_net.specs.declared.fault.OpenFault.TheVariants as open_faults
use Rattle.sched_net.proofs.BenchKinds.{opening_by_kinds}
use Rattle.topo_forms.specs.View.{View, component_at}
use Rattle.command_checks.specs.Ends.{Source, files_states}
use Rattle.command_checks.specs.Ran.{IsStopAt, StopsAs}
use Rattle.command_checks.specs.Reply.{Answer}
use Rattle.command_checks.specs.Script.{Script, ◌>>=◌}
use Rattle.command_checks.specs.declared.reply.Reply.{Reply}
use Rattle.command_checks.specs.declared.stop.Stop.{Stop}
use Rattle.command_checks.proofs.RefusedLemmas.{memory_gives, refused_gives}
use Rattle.command_checks.proofs.ScriptLemmas.{came_checked, gives_ran}
use Rattle.blazes_commands.specs.Runs.Bench.{BenchStates}
use Rattle.blazes_commands.specs.Runs.Checks as check
use Rattle.blazes_commands.specs.Runs.Replies.{RepliesWith}
use Rattle.blazes_commands.proofs.Runs.RepliesLemmas.{stop_replies, then_replies}

-- ---- the call

-- the stop of an opening that is refused
opening_gives : {X : Type 0} (v : View) (fault : Option OpenFault) (answer : Result X OpenFault) (of : OpenFault) (stop : Stop) → answer ≡ Err of → OpensAs fault answer → IsStopAt (check.opening_refusal v of) stop
    → StopsAs stop (check.opened v fault)
opening_gives {X = X} v fault answer of stop same opens said = go of (subst (λ (a : Result X OpenFault). OpensAs fault a) same opens) said
  where
    go : (of : OpenFault) → OpensAs {X = X} fault (Err of) → IsStopAt (check.opening_refusal v of) stop → StopsAs stop (check.opened v fault)
    go (open_faults.NoBody c) is said = refused_gives (λ (opened : Unit {0}). opened) (check.opened v fault) (refusal.NoBody (component_at v c).name) stop (ap (check.opened v) is) said
    go (open_faults.NoShell c) is said = refused_gives (λ (opened : Unit {0}). opened) (check.opened v fault) (refusal.NoShell (component_at v c).name) stop (ap (check.opened v) is) said
    go open_faults.NoMemory is said = memory_gives (λ (opened : Unit {0}). opened) (check.opened v fault) stop said

module _ {X : Type 0} (v : View) (kind : X → ProgramKind) (before : List X) where
  -- the check over the kinds of the shells
  abbrev by_kinds : Result (Unit {0}) (List ℕ)
  by_kinds = check.opened v (fault_of_opening v (λ k. k) (map kind before))

  pub opens : fault_of_opening v kind before ≡ None → by_kinds ≡ Ok tt
  opens none = ap (check.opened v) (sym (opening_by_kinds v kind before) ∙ none)

  pub opens_not : {Y : Type 0} (answer : Result Y OpenFault) (of : OpenFault) (refused : Option Refusal) (stop : Stop) → answer ≡ Err of → OpensAs (fault_of_opening v kind before) answer → refused ≡ check.opening_refusal v of → IsStopAt refused stop
      → StopsAs stop by_kinds
  opens_not {Y = Y} answer of refused stop is opens same said =
      opening_gives v (fault_of_opening v (λ k. k) (map kind before)) answer of stop is (subst (λ (o : Option OpenFault). OpensAs o answer) (opening_by_kinds v kind before) opens)
      (subst (λ (r : Option Refusal). IsStopAt r stop) same said)

-- ---- the command

module _ {A : Type 0} (Said : A → BenchStates → Answer → Type 0) (v : View) (bench : BenchStates) (next : Script A) (result : Result Reply Stop) (s : Source) where
  abbrev opening : Script A
  opening = check.opening v bench.kinds >>= λ opened. next

  abbrev checked : Result (Unit {0}) (List ℕ)
  checked = check.opened v (fault_of_opening v (λ k. k) bench.kinds)

  -- a command whose net isn't opened stops there
  pub opening_stops : (stop : Stop) → IsErrAnd result (λ given. given ≡ stop) → StopsAs stop checked → RepliesWith Said (files_states s s) bench result opening
  opening_stops stop is gives =
      stop_replies Said (files_states s s) bench (check.opening v bench.kinds) (λ opened. next) result stop is (gives_ran (λ (opened : Unit {0}). opened) s (Err stop) checked gives)

  -- and else goes on
  pub opened_then : checked ≡ Ok tt → RepliesWith Said (files_states s s) bench result next → RepliesWith Said (files_states s s) bench result opening
  opened_then is replies = then_replies Said s s s bench (check.opening v bench.kinds) (λ opened. next) tt result (came_checked s checked tt is) replies
