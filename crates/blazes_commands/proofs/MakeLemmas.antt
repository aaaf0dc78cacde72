-- A command that makes a schedule replies as its script says: the net is opened, a seed chooses the events, and the shells go back.
use Rattle.std.proofs.Common.{◌≡◌, ◌∙◌, ℕ, List, [], Option, Result, Ok, Err, OnOk, IfOk, map, sym, subst, ap}
use Rattle.bloom_forms.specs.declared.program.Program.{Program}
use Rattle.bloom_forms.specs.Step.{Sets}
use Rattle.inbox.specs.Events.{Event, event}
use Rattle.inbox.specs.Executions.{Execution, execution_of_events}
use Rattle.inbox.specs.Wiring.{wiring_of}
use Rattle.inbox.proofs.Executions.Results.{Ok_same}
use Rattle.sched_net.specs.Bench.{fault_of_opening}
use Rattle.sched_run.specs.Made.{AnswersSo, LeavesNothing, execution_after, made_of}
use Rattle.sched_run.specs.Making.{AnswersNumbered, HasMadeNumbered, LeavesNumbered, RunsFirst}
use Rattle.sched_run.specs.Naming.{CanBeWritten}
use Rattle.sched_net.specs.Net.{Stands, BooksRun, execution_in}
use Rattle.sched_net.specs.declared.books.Books.{Books}
use Rattle.sched_net.specs.declared.fault.MakeFault.{MakeFault}
use Rattle.topo_forms.specs.Data.{Data}
use Rattle.topo_forms.specs.View.{View}
use Rattle.blazes_commands.specs.Checks as check
use Rattle.blazes_commands.specs.Code.Made.{IsMade, IsMadeOf, PrintsBooks}
use Rattle.command_checks.specs.Ran.{answer_of}
use Rattle.command_checks.specs.Reply.{Answer}
use Rattle.blazes_commands.specs.Commands.{Work, making, making_for, Says}
use Rattle.blazes_commands.specs.Commands.Work.{made}
use Rattle.command_checks.specs.Ends.{Source, files_states}
use Rattle.command_checks.specs.Script.{Script, ◌>>=◌}
use Rattle.command_checks.specs.Script.Script.{gives}
use Rattle.command_checks.specs.declared.reply.Reply.{Reply}
use Rattle.command_checks.specs.declared.stop.Stop.{Stop}
use Rattle.blazes_commands.specs.Runs.Bench.{BenchStates}
use Rattle.blazes_commands.specs.Runs.Contents.{IsStatusOf}
use Rattle.blazes_commands.specs.Runs.Replies.{RepliesWith}
use Rattle.blazes_commands.proofs.Runs.OpeningLemmas.{opened_then}
use Rattle.blazes_commands.proofs.Runs.RepliesLemmas.{followed}
use Rattle.blazes_commands.proofs.GivenLemmas.{made_gives}
use Rattle.command_checks.proofs.ScriptLemmas.{came_checked, gives_ran, memory_stops, stop_then}

-- ---- the events

-- the execution for which books stand after them is that after them
pub after_events : (v : View) (given : Data) (events : List Event) (loaded : List (Option Program)) (tables : List Sets) (b : Books) (stands : Stands v given (map event events) loaded tables b)
    → LeavesNothing (wiring_of v) given events → execution_in stands.books ≡ execution_after (wiring_of v) given events
after_events v given events loaded tables b stands leaves =
    Ok_same (execution_of_events (wiring_of v) given events) (execution_in stands.books) (execution_after (wiring_of v) given events) stands.books.stands.run leaves.legal

-- ---- the net

-- a new net made no step
pub runs_first : (v w : View) (given : Data) (loaded : List (Option Program)) (tables : List Sets) (b : Books) → w ≡ v → Stands v given [] loaded tables b → RunsFirst w loaded tables b
runs_first v w given loaded tables b same stands = subst (λ (u : View). RunsFirst u loaded tables b) (sym same) (record { given = given; stands = stands })

module _ (v : View) (given : Data) (seed : ℕ) (loaded : List (Option Program)) (tables next : List Sets) (old new : Books) where
  -- a net that made a schedule runs
  pub runs_made : (w u : View) (result : Result (List Event) MakeFault) → w ≡ v → u ≡ w → Stands v given [] loaded tables old → LeavesNumbered w loaded tables next old new result → OnOk result (BooksRun u new)
  runs_made w u (Ok events) same still stands leaves =
      subst (λ (z : View). BooksRun z new) (sym (still ∙ same))
      (record { given = given; steps = map event events; stand = (subst (λ (z : View). LeavesNumbered z loaded tables next old new (Ok events)) same leaves given stands).books })
  runs_made w u (Err fault) same still stands leaves = tt

  module _ (bench : BenchStates) (s : Source) (work : List Event → Work) (Said : List Event → Answer → Type 0)
      (follows : (events : List Event) (answer : Answer) → Stands v given (map event events) loaded next new → LeavesNothing (wiring_of v) given events → Said events answer → Says (work events) bench answer) where
    abbrev works : Script Work
    works = check.making v given seed >>= λ events. gives (work events)

    -- what becomes of the generator's answer
    made_reply : (result : Result (List Event) MakeFault) (outcome : Result Reply Stop) → IsMade Said result outcome → AnswersSo (wiring_of v) given (made_of (wiring_of v) given seed) result → HasMadeNumbered v given loaded next new result
        → RepliesWith Says (files_states s s) bench outcome works
    made_reply (Ok events) (Ok reply) said answers stands =
        followed Says s s bench (check.making v given seed) work events (answer_of reply)
        (came_checked s (check.made (made_of (wiring_of v) given seed)) events (ap check.made answers.0))
        (follows events (answer_of reply) stands answers.1 said)
    made_reply (Ok events) (Err stop) said answers stands = memory_stops (files_states s s) works stop said
    made_reply (Err fault) (Ok reply) said answers ended = absurd said
    made_reply (Err fault) (Err stop) said answers ended =
        stop_then (files_states s s) stop (check.making v given seed) (λ events. gives (work events))
        (gives_ran (λ (events : List Event). events) s (Err stop) (check.made (made_of (wiring_of v) given seed)) (made_gives (wiring_of v) given (made_of (wiring_of v) given seed) fault stop answers said))

    -- the net is opened, and then makes a schedule
    pub making_replies : (w : View) (result : Result (List Event) MakeFault) (outcome : Result Reply Stop) → check.opened v (fault_of_opening v (λ k. k) bench.kinds) ≡ Ok tt → w ≡ v → Stands v given [] loaded tables old
        → AnswersNumbered w loaded tables old seed result → LeavesNumbered w loaded tables next old new result → IsMade Said result outcome → RepliesWith Says (files_states s s) bench outcome (making_for work bench.kinds v given seed)
    making_replies w result outcome opens same stands answers leaves said =
        opened_then Says v bench works outcome s opens
        (made_reply result outcome said
        (subst (λ (z : View). AnswersNumbered z loaded tables old seed result) same answers given stands)
        (subst (λ (z : View). LeavesNumbered z loaded tables next old new result) same leaves given stands))

  module _ (bench : BenchStates) (s : Source) where
    -- what is printed of the net is what `make` says
    printed_follows : (events : List Event) (answer : Answer) → Stands v given (map event events) loaded next new → LeavesNothing (wiring_of v) given events → PrintsBooks v new events answer → Says (made v given events) bench answer
    printed_follows events answer stands leaves said = record {
      lines = said.text.lines;
      text = said.text.is;
      reads = said.text.reads;
      are = said.text.are;
      leaves = leaves;
      status = subst (λ (x : Execution). IsStatusOf v given x answer.status) (after_events v given events loaded next new stands leaves) (said.status given (map event events) stands.books);
    }

    pub make_replies : (w u : View) (result : Result (List Event) MakeFault) (outcome : Result Reply Stop) → check.opened v (fault_of_opening v (λ k. k) bench.kinds) ≡ Ok tt → w ≡ v → u ≡ w → Stands v given [] loaded tables old
        → AnswersNumbered w loaded tables old seed result → LeavesNumbered w loaded tables next old new result → IsMadeOf u new result outcome → RepliesWith Says (files_states s s) bench outcome (making bench.kinds v given seed)
    make_replies w u result outcome opens same still stands answers leaves said =
        making_replies bench s (made v given) (PrintsBooks v new) printed_follows w result outcome opens same stands answers leaves (subst (λ (z : View). IsMadeOf z new result outcome) (still ∙ same) said)

-- what was made can be written with the names of an equal topology
pub written_on : (w u : View) (result : Result (List Event) MakeFault) → u ≡ w → IfOk result (CanBeWritten w) → IfOk result (CanBeWritten u)
written_on w u result same = subst (λ (z : View). IfOk result (CanBeWritten z)) (sym same)
