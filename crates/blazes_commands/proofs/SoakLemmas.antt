-- A soak replies as its script says: the word count is checked and planned, its data are made, and a net that made a schedule over them is summed up.
use Rattle.std.proofs.Common.{◌≡◌, ℕ, List, [], Option, Result, Ok, Err, OnOk, map, refl, subst}
use Rattle.std.specs.Result.{IsErrAnd}
use Rattle.bloom_forms.specs.declared.program.Program.{Program}
use Rattle.bloom_forms.specs.Step.{Sets}
use Rattle.inbox.specs.Executions.{Execution}
use Rattle.inbox.specs.Events.{Event, event}
use Rattle.sched_net.specs.Bench.{fault_of_opening}
use Rattle.sched_run.specs.Making.{AnswersNumbered, LeavesNumbered}
use Rattle.sched_net.specs.Net.{Stands, BooksRun}
use Rattle.sched_net.specs.declared.books.Books.{Books}
use Rattle.sched_net.specs.declared.fault.MakeFault.{MakeFault}
use Rattle.topo_forms.specs.Data.{Data}
use Rattle.topo_forms.specs.View.{View}
use Rattle.blazes_commands.specs.Checks as check
use Rattle.command_checks.specs.Ran.{Gives, RanAtOnce}
use Rattle.blazes_commands.specs.Code.Soaked.{IsSummaryOf, SumsBooks}
use Rattle.blazes_commands.specs.Commands.{Work, Says, making_for, soaking, script, HasSummary}
use Rattle.blazes_commands.specs.Commands.Work.{soaked}
use Rattle.command_checks.specs.Ends.{Source, files_states}
use Rattle.command_checks.specs.Script.{Script}
use Rattle.blazes_commands.specs.Labels.BuiltIn.{planned_count}
use Rattle.blazes_commands.specs.Soak.{tweets_data}
use Rattle.blazes_words.specs.Words.{Asked, SoakWords}
use Rattle.command_checks.specs.declared.reply.Reply.{Reply}
use Rattle.command_checks.specs.declared.stop.Stop.{Stop}
use Rattle.blazes_commands.specs.Runs.Bench.{BenchStates}
use Rattle.blazes_commands.specs.Runs.Replies.{RepliesAtOnce, RepliesWith}
use Rattle.blazes_commands.proofs.Runs.RepliesLemmas.{stop_replies, then_replies}
use Rattle.blazes_commands.proofs.MakeLemmas.{after_events, making_replies, runs_made}
use Rattle.command_checks.proofs.ScriptLemmas.{came_checked, gives_ran}

-- the net of a topology runs after it made a schedule
pub runs_on : (v : View) (given : Data) (loaded : List (Option Program)) (tables next : List Sets) (old new : Books) (w : View) (result : Result (List Event) MakeFault) → w ≡ v → Stands v given [] loaded tables old → LeavesNumbered w loaded tables next old new result → OnOk result (BooksRun v new)
runs_on v given loaded tables next old new w result same stands leaves = runs_made v given 0 loaded tables next old new v v result refl refl stands (subst (λ (z : View). LeavesNumbered z loaded tables next old new result) same leaves)

-- a net that made a schedule is summed up
pub sums_reply : (batches : ℕ) (v : View) (given : Data) (seed : ℕ) (loaded : List (Option Program)) (tables next : List Sets) (old new : Books) (bench : BenchStates) (s : Source) (w : View) (result : Result (List Event) MakeFault) (outcome : Result Reply Stop)
    → check.opened v (fault_of_opening v (λ kind. kind) bench.kinds) ≡ Ok tt → w ≡ v → Stands v given [] loaded tables old → AnswersNumbered w loaded tables old seed result → LeavesNumbered w loaded tables next old new result
    → IsSummaryOf batches v new result outcome → RepliesWith Says (files_states s s) bench outcome (making_for (soaked batches v given) bench.kinds v given seed)
sums_reply batches v given seed loaded tables next old new bench s w result outcome opens same stands answers leaves said =
    making_replies v given seed loaded tables next old new bench s (soaked batches v given) (λ events answer. SumsBooks batches v new answer)
    (λ events answer stands leaves said. record {
      leaves = leaves;
      summary = subst (λ (x : Execution). HasSummary batches v given x answer) (after_events v given events loaded next new stands leaves) (said given (map event events) stands.books);
    })
    w result outcome opens same stands answers leaves said

module _ (bench : BenchStates) (words : SoakWords) (result : Result Reply Stop) where
  -- what follows on the plan of the word count, and on its data
  abbrev on_plan : View → Script Work
  on_plan v = soaking words.count bench.kinds v words.seed

  -- a soak whose topology stops
  pub plan_stops : {X : Type 0} (view : X → View) (stop : Stop) → IsErrAnd result (λ given. given ≡ stop) → RanAtOnce view (Err stop) planned_count → RepliesAtOnce Says bench result (script bench.kinds (Asked.soak words))
  plan_stops view stop is stopped s = stop_replies Says (files_states s s) bench planned_count on_plan result stop is (stopped s)

  -- and one that goes on with its plan
  pub plan_then : {X : Type 0} (view : X → View) (x : X) → RanAtOnce view (Ok x) planned_count → RepliesAtOnce Says bench result (on_plan (view x)) → RepliesAtOnce Says bench result (script bench.kinds (Asked.soak words))
  plan_then view x counts replies s = then_replies Says s s s bench planned_count on_plan (view x) result (counts s) (replies s)

  module _ (v : View) where
    abbrev on_data : Data → Script Work
    on_data given = making_for (soaked words.count v given) bench.kinds v given words.seed

    -- one whose data stop
    pub tweets_stop : {Y : Type 0} (view : Y → Data) (stop : Stop) → IsErrAnd result (λ given. given ≡ stop) → Gives view (Err stop) (tweets_data v words.count) → RepliesAtOnce Says bench result (on_plan v)
    tweets_stop view stop is given s = stop_replies Says (files_states s s) bench (check.checked (tweets_data v words.count)) on_data result stop is (gives_ran view s (Err stop) (tweets_data v words.count) given)

    -- and one that goes on with them
    pub tweets_then : (given : Data) → tweets_data v words.count ≡ Ok given → RepliesAtOnce Says bench result (on_data given) → RepliesAtOnce Says bench result (on_plan v)
    tweets_then given is replies s = then_replies Says s s s bench (check.checked (tweets_data v words.count)) on_data given result (came_checked s (tweets_data v words.count) given is) (replies s)
