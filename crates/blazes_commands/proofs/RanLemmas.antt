-- A command that runs a schedule is a part of the program that replies of the execution which its checks gave.
use Rattle.std.proofs.Common.{◌≡◌, List, Result, subst}
use Rattle.bloom_eval.specs.declared.kind.ProgramKind.{ProgramKind}
use Rattle.inbox.specs.Executions.{Execution}
use Rattle.topo_forms.specs.Data.{Data}
use Rattle.topo_forms.specs.Valid.{Validated}
use Rattle.topo_forms.specs.View.{View}
use Rattle.blazes_words.specs.Words.{Asked, RunFiles}
use Rattle.command_checks.specs.Ends.{Source, files_states}
use Rattle.command_checks.specs.Script.{Script, ◌>>=◌}
use Rattle.command_checks.specs.Script.Script.{gives}
use Rattle.command_checks.specs.declared.reply.Reply.{Reply}
use Rattle.command_checks.specs.declared.stop.Stop.{Stop}
use Rattle.blazes_commands.specs.Runs.Bench.{BenchStates}
use Rattle.blazes_commands.specs.Runs.Replies.{RepliesWith}
use Rattle.blazes_commands.specs.Runs.Runs.{RunWork, SaysRun, run_work, restarts, running_by, runs}
use Rattle.blazes_commands.proofs.Runs.RepliesLemmas.{in_turn, turned, work_replies}
use Rattle.blazes_commands.specs.Checks as check
use Rattle.blazes_commands.specs.Code.Ran.{RepliesTo}
use Rattle.blazes_commands.specs.Commands.{Work, Says, running}
use Rattle.blazes_commands.specs.Commands.Work.{ran}

-- the work that a run has found
abbrev ran_work : RunWork → Work
ran_work found = ran found.view found.given found.execution

abbrev given_work : RunWork → Script Work
given_work found = gives (ran_work found)

-- ---- its script, with the work at its end

-- from the opening of the net on
opened_turned : (happens : Script Execution) (kinds : List ProgramKind) (v : View) (given : Data) → (running_by happens kinds v given >>= given_work) ≡ running kinds v given happens
opened_turned happens kinds v given =
    turned (check.opening v kinds) (λ opened. happens >>= λ x. gives (run_work v given x)) given_work (λ opened. happens >>= λ x. gives (ran v given x))
    (λ opened. in_turn happens (λ x. gives (run_work v given x)) given_work)

module _ {L : Type 0} (asked : RunFiles) (lines_in : Script L) (happens : View → Data → L → Script Execution) (kinds : List ProgramKind) where
  -- what follows on lines, on data and on a topology: what a run finds, and the work
  abbrev on_lines : View → Data → L → Script RunWork
  on_lines v given lines = running_by (happens v given lines) kinds v given

  abbrev works_on_lines : View → Data → L → Script Work
  works_on_lines v given lines = running kinds v given (happens v given lines)

  abbrev on_data : Validated → Data → Script RunWork
  on_data seen given = lines_in >>= on_lines seen.view given

  abbrev works_on_data : Validated → Data → Script Work
  works_on_data seen given = lines_in >>= works_on_lines seen.view given

  abbrev on_topology : Validated → Script RunWork
  on_topology seen = check.data_file seen asked.given >>= on_data seen

  abbrev works_on_topology : Validated → Script Work
  works_on_topology seen = check.data_file seen asked.given >>= works_on_data seen

  data_turned : (seen : Validated) (given : Data) → (on_data seen given >>= given_work) ≡ works_on_data seen given
  data_turned seen given = turned lines_in (on_lines seen.view given) given_work (works_on_lines seen.view given) (λ lines. opened_turned (happens seen.view given lines) kinds seen.view given)

  topology_turned : (seen : Validated) → (on_topology seen >>= given_work) ≡ works_on_topology seen
  topology_turned seen = turned (check.data_file seen asked.given) (on_data seen) given_work (works_on_data seen) (data_turned seen)

  files_turned : ((check.valid_topology asked.topology >>= on_topology) >>= given_work) ≡ (check.valid_topology asked.topology >>= works_on_topology)
  files_turned = turned (check.valid_topology asked.topology) on_topology given_work works_on_topology topology_turned

-- ---- its reply

module _ (a b : Source) (bench : BenchStates) (result : Result Reply Stop) (asked : RunFiles) where
  pub run_replies : RepliesWith SaysRun (files_states a b) bench result (runs bench.kinds asked) → RepliesTo (Asked.run asked) (files_states a b) bench result
  run_replies told =
      subst (λ (checks : Script Work). RepliesWith Says (files_states a b) bench result checks)
      (files_turned asked (check.schedule_file asked.schedule) check.execution bench.kinds)
      (work_replies SaysRun Says a b bench (runs bench.kinds asked) ran_work result (λ found answer says. says) told)

  pub restart_replies : RepliesWith SaysRun (files_states a b) bench result (restarts bench.kinds asked) → RepliesTo (Asked.restart asked) (files_states a b) bench result
  restart_replies told =
      subst (λ (checks : Script Work). RepliesWith Says (files_states a b) bench result checks)
      (files_turned asked (check.steps_file asked.schedule) check.restarted bench.kinds)
      (work_replies SaysRun Says a b bench (restarts bench.kinds asked) ran_work result (λ found answer says. says) told)
