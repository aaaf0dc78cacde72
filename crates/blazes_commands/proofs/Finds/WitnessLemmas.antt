-- Two executions are compared as the script of `witness` says, and where both are complete they don't differ in a stream of which the labels promise that they don't.
use Rattle.std.proofs.Common.{◌≡◌, ◌∙◌, List, Option, None, Some, Result, Ok, Err, refl, sym, subst, ap}
use Rattle.std.specs.List.Sorted.{IsPermutation}
use Rattle.std.specs.Result.{IsErrAnd}
use Rattle.bloom_eval.specs.declared.kind.ProgramKind.{ProgramKind}
use Rattle.confluence.specs.Laws.{RegionLaw}
use Rattle.inbox.specs.Executions.{Execution, contents, first_execution}
use Rattle.sched_net.specs.Bench.{fault_of_opening}
use Rattle.sched_net.specs.ScheduleLines.{Line}
use Rattle.sched_net.specs.Steps.{after_lines}
use Rattle.sched_net.specs.declared.step.Step.TheVariants as named
use Rattle.sched_net.specs.Reading.{is_complete}
use Rattle.sched_net.proofs.LeftSeen.{tells_complete}
use Rattle.topo_forms.specs.Data.{Data, Holds, IsData}
use Rattle.topo_forms.specs.Valid.{IsValid}
use Rattle.topo_forms.specs.View.{View}
use Rattle.witness_check.specs.Difference.{difference, snapshot, AreAlike}
use Rattle.witness_check.specs.declared.difference.Difference.{Difference}
use Rattle.witness_check.specs.declared.difference.Which.TheVariants.{First, Second}
use Rattle.why_trace.proofs.OpeningAgain.{opening_permuted}
use Rattle.witness_check.proofs.DifferenceLemmas.{differs, snapshots_alike}
use Rattle.command_checks.specs.Ends.{Source, files_states, Came}
use Rattle.command_checks.specs.Ran.{Stopped, answer_of}
use Rattle.command_checks.specs.Script.{Script, ◌>>=◌}
use Rattle.command_checks.specs.Script.Script.{gives}
use Rattle.command_checks.specs.Script.Ending.{gave}
use Rattle.command_checks.specs.declared.reply.Reply.{Reply}
use Rattle.command_checks.specs.declared.status.Status.TheVariants.{Done}
use Rattle.command_checks.specs.declared.stop.Stop.{Stop}
use Rattle.blazes_commands.specs.Runs.Bench.{BenchStates}
use Rattle.blazes_commands.specs.Runs.Replies.{RepliesAtOnce}
use Rattle.blazes_commands.proofs.Runs.RepliesLemmas.{followed, stop_replies, then_replies}
use Rattle.blazes_commands.specs.Finds.Checks as check
use Rattle.blazes_commands.specs.Finds.Code.Seen.{IsSeen, IsWithin, Sees, run_in, seen_of, seen_text}
use Rattle.blazes_commands.specs.Finds.Finds.{SaysWitness, SparesSteady, Witnessed, comparing, run_of}
use Rattle.blazes_commands.specs.declared.find_calls.seeing.Seen.{Seen}
use Rattle.blazes_commands.proofs.Finds.NetLemmas.{lines_run, run_gave, run_opened}

-- ---- what is taken of two executions

module _ (v : View) (given : Data) (one other : Seen) (run last : Script Execution) (first : IsSeen v given run one) (second : IsSeen v given last other) where
  pub taken_alike : AreAlike one.contents other.contents
  taken_alike =
      subst (λ (seen : Seen). AreAlike seen.contents other.contents) (sym first.says)
      (subst (λ (seen : Seen). AreAlike (snapshot v given first.execution) seen.contents) (sym second.says) (snapshots_alike v given given first.execution second.execution))

  within : (found : Option Difference) → difference (snapshot v given first.execution) (snapshot v given second.execution) ≡ found → IsWithin v found
  within None is = tt
  within (Some d) is = (differs v given first.execution second.execution d is).stream

  pub taken_within : IsWithin v (difference one.contents other.contents)
  taken_within =
      subst (λ (seen : Seen). IsWithin v (difference seen.contents other.contents)) (sym first.says)
      (subst (λ (seen : Seen). IsWithin v (difference (snapshot v given first.execution) seen.contents)) (sym second.says)
      (within (difference (snapshot v given first.execution) (snapshot v given second.execution)) refl))

-- ---- what the labels promise

module _ (v : View) (given : Data) (valid : IsValid v) (fits : IsData v given) (holds : Holds v given) (law : RegionLaw) (first second : List Line) (x y : Execution)
    (reached : after_lines named.Event v given first first_execution ≡ Ok x) (also : after_lines named.Event v given second first_execution ≡ Ok y) where
  spares : (found : Option Difference) → difference (snapshot v given x) (snapshot v given y) ≡ found → SparesSteady v given x y found
  spares None is = tt
  spares (Some d) is = λ complete too labels are bodied steady.
      let differ = differs v given x y d is in
      let sound = law v labels valid are given d.stream fits holds differ.stream bodied in
      let same = sound.schedules steady x y (lines_run v given first x reached ((tells_complete v given x (is_complete v given x) refl).0 complete)) (lines_run v given second y also ((tells_complete v given y (is_complete v given y) refl).0 too)) d.replica d.replica differ.replica differ.replica in
      differ.apart same

  pub spares_steady : SparesSteady v given x y (difference (snapshot v given x) (snapshot v given y))
  spares_steady = spares (difference (snapshot v given x) (snapshot v given y)) refl

-- ---- the command

module _ (bench : BenchStates) (v : View) (given : Data) (first second : List Line) (result : Result Reply Stop) where
  abbrev on_first : Execution → Script Witnessed
  on_first x = check.second_execution v given second >>= λ y. gives (record { view = v; given = given; first = x; second = y })

  -- the first schedule stops
  pub first_stops : (stop : Stop) → IsErrAnd result (λ given. given ≡ stop) → Sees v given (run_in First bench.kinds v given first) (Err stop) → RepliesAtOnce SaysWitness bench result (comparing bench.kinds v given first second)
  first_stops stop is stopped s = stop_replies SaysWitness (files_states s s) bench (run_of bench.kinds v given first) on_first result stop is (stopped s)

  module _ (one : Seen) (before : IsSeen v given (run_in First bench.kinds v given first) one) (middle : List ProgramKind) (kept : IsPermutation bench.kinds middle) where
    -- the bench serves for a second net too
    opens_again : (s : Source) → fault_of_opening v (λ kind. kind) middle ≡ None
    opens_again s = sym (opening_permuted v bench.kinds middle kept) ∙ (run_gave First bench.kinds v given first s.told before.execution (before.came s).ends).0

    -- the second schedule stops
    pub second_stops : (stop : Stop) → IsErrAnd result (λ given. given ≡ stop) → Sees v given (run_in Second middle v given second) (Err stop) → RepliesAtOnce SaysWitness bench result (comparing bench.kinds v given first second)
    second_stops stop is stopped s =
        then_replies SaysWitness s s s bench (run_of bench.kinds v given first) on_first before.execution result (before.came s)
        (stop_replies SaysWitness (files_states s s) bench (check.second_execution v given second) (λ y. gives (record { view = v; given = given; first = before.execution; second = y })) result stop is
        (run_opened Second middle v given second (λ run. Stopped (files_states s s) stop run) (opens_again s) (stopped s)))

    -- both were run
    module _ (other : Seen) (after : IsSeen v given (run_in Second middle v given second) other) (valid : IsValid v) (fits : IsData v given) (holds : Holds v given) (law : RegionLaw) where
      second_came : (s : Source) → Came (files_states s s) (check.second_execution v given second) (gave after.execution)
      second_came s = run_opened Second middle v given second (λ run. Came (files_states s s) run (gave after.execution)) (opens_again s) (after.came s)

      text_is : seen_text v one other ≡ seen_text v (seen_of v given before.execution) (seen_of v given after.execution)
      text_is = ap (λ (seen : Seen). seen_text v seen other) before.says ∙ ap (seen_text v (seen_of v given before.execution)) after.says

      pub both_compared : (reply : Reply) → result ≡ Ok reply → answer_of reply ≡ record { status = Done; text = seen_text v one other } → RepliesAtOnce SaysWitness bench result (comparing bench.kinds v given first second)
      both_compared reply is says s =
          subst (λ (r : Result Reply Stop). RepliesAtOnce SaysWitness bench r (comparing bench.kinds v given first second)) (sym is)
          (λ files. then_replies SaysWitness files files files bench (run_of bench.kinds v given first) on_first before.execution (Ok reply) (before.came files)
          (followed SaysWitness files files bench (check.second_execution v given second) (λ y. record { view = v; given = given; first = before.execution; second = y }) after.execution (answer_of reply) (second_came files)
          (record {
            says = says ∙ ap (λ text. record { status = Done; text = text }) text_is;
            spares = spares_steady v given valid fits holds law first second before.execution after.execution
                (run_gave First bench.kinds v given first files.told before.execution (before.came files).ends).1
                (run_gave Second middle v given second files.told after.execution (after.came files).ends).1;
          }))) s
