-- The record that the words name is looked for as the script of `why` says.
use Rattle.std.proofs.Common.{◌≡◌, ◌+◌, ◌++◌, ◌<◌, ℕ, Bool, true, false, List, [], ◌∷◌, length, Option, None, Some, Result, Ok, Err, refl, sym, subst, arith}
use Rattle.std.specs.Prelude.{nat_lt, if◌then◌else◌}
use Rattle.std.specs.Result.{IsErrAnd}
use Rattle.std.specs.Str.{bytes_eq}
use Rattle.std.proofs.lemmas.Bool.{ltb-true}
use Rattle.bloom_forms.specs.declared.program.Program.{Program}
use Rattle.bloom_forms.specs.Step.{Sets}
use Rattle.bloom_eval.specs.declared.kind.ProgramKind.{ProgramKind}
use Rattle.blz_value.specs.Record.{Row}
use Rattle.blz_value.proofs.Options.{place_within}
use Rattle.inbox.specs.Executions.{Execution, first_execution}
use Rattle.report_lines.specs.Refusals.{refusal_line}
use Rattle.report_lines.specs.declared.refusal.Refusal.TheVariants as refusal
use Rattle.report_lines.specs.declared.refusal.WhyKind.TheVariants as why_kinds
use Rattle.sched_net.specs.Bench.{fault_of_opening}
use Rattle.sched_net.specs.Net.{execution_in}
use Rattle.sched_net.specs.declared.books.Books.{Books}
use Rattle.sched_net.specs.ScheduleLines.{Line, steps_of}
use Rattle.sched_net.specs.Steps.{after_lines, Applied}
use Rattle.sched_net.specs.declared.running.StepRefusal.{StepRefusal}
use Rattle.sched_net.specs.declared.step.Step.TheVariants as named
use Rattle.topo_forms.specs.Data.{Data}
use Rattle.topo_forms.specs.View.{View, find_stream, stream_replicas}
use Rattle.why_trace.specs.Trim as trim
use Rattle.witness_check.specs.declared.difference.Which.TheVariants.{First}
use Rattle.blazes_words.specs.Words.{WhyWords}
use Rattle.command_checks.specs.Ends.{files_states, Came}
use Rattle.command_checks.specs.Ran.{RanAtOnce, StopsAs}
use Rattle.command_checks.specs.Script.{Script, ◌>>=◌}
use Rattle.command_checks.specs.Script.Script.{gives}
use Rattle.command_checks.specs.Script.Ending.{gave}
use Rattle.command_checks.specs.declared.stop.Stop.{Stop}
use Rattle.command_checks.proofs.ScriptLemmas.{came_at_once, came_checked, came_then, gives_ran, stop_handed, stop_then, then_ran, then_stop}
use Rattle.blazes_commands.specs.Finds.Checks as check
use Rattle.blazes_commands.specs.Finds.Code.Looked.{IsLookedIn, wanted_shown}
use Rattle.blazes_commands.specs.Finds.Finds.{looking, run_of}
use Rattle.blazes_commands.specs.declared.find_calls.finding.Wanted.{Wanted}
use Rattle.blazes_commands.proofs.Finds.NetLemmas.{opening_stops, run_came, run_stops}

-- ---- the stream

-- a stream that has a name is one of the topology
pub named_within : (v : View) (name : List ℕ) (stream : ℕ) → find_stream v name ≡ Some stream → stream < length v.streams
named_within v name stream is = let within : stream < 0 + length v.streams = place_within (λ s. bytes_eq s.name name) 0 v.streams stream is in omega (arith, within)

-- the stream and the replica of the words are there
pub record IsThere (v : View) (replica stream : ℕ) : Type 0 where
  pub within : stream < length v.streams
  pub sends : nat_lt replica (stream_replicas v stream) ≡ true

pub is_there : (v : View) (name : List ℕ) (replica stream : ℕ) → check.sender_in v replica (find_stream v name) ≡ Ok stream → IsThere v replica stream
is_there v name replica stream is = from (find_stream v name) refl is
  where
    sent : (k : ℕ) (b : Bool) → nat_lt replica (stream_replicas v k) ≡ b → (if b then Ok k else Err (refusal_line (refusal.Why why_kinds.NoStream))) ≡ Ok stream → (k ≡ stream) × (nat_lt replica (stream_replicas v k) ≡ true)
    sent k true sends is = (cc, sends)
    sent k false sends is = absurd (cc)

    from : (found : Option ℕ) → find_stream v name ≡ found → check.sender_in v replica found ≡ Ok stream → IsThere v replica stream
    from None at is = absurd (cc)
    from (Some k) at is =
        let so = sent k (nat_lt replica (stream_replicas v k)) refl is in
        subst (IsThere v replica) so.0 (record { within = named_within v name k at; sends = so.1 })

-- so it sends the stream
pub sends_stream : (v : View) (name : List ℕ) (replica stream : ℕ) → check.sender_in v replica (find_stream v name) ≡ Ok stream → replica < stream_replicas v stream
sends_stream v name replica stream is = ltb-true replica (stream_replicas v stream) (is_there v name replica stream is).sends

-- ---- the record

module _ (v : View) (given : Data) (x : Execution) (words : WhyWords) (result : Result Wanted Stop) where
  abbrev sender : Result ℕ (List ℕ)
  sender = check.sender_in v words.replica (find_stream v words.stream)

  abbrev record_of : (stream : ℕ) → Result Row (List ℕ)
  record_of stream = check.record_in (check.record_at v given x stream words.replica words.index)

  abbrev on_record : (stream : ℕ) → Row → Script trim.Wanted
  on_record stream row = gives (record { stream = stream; replica = words.replica; row = row })

  abbrev on_stream : (stream : ℕ) → Script trim.Wanted
  on_stream stream = check.checked (record_of stream) >>= on_record stream

  -- no stream has the name, or it has no such replica
  pub stream_stops : (stop : Stop) → IsErrAnd result (λ given. given ≡ stop) → StopsAs stop sender → RanAtOnce wanted_shown result (check.wanted v given x words)
  stream_stops stop is stopped s =
      stop_handed wanted_shown (files_states s s) (check.wanted v given x words) result stop is
      (stop_then (files_states s s) stop (check.checked sender) on_stream (gives_ran (λ (n : ℕ). n) s (Err stop) sender stopped))

  -- no record stands at the index
  pub record_stops : (stream : ℕ) (stop : Stop) → IsErrAnd result (λ given. given ≡ stop) → sender ≡ Ok stream → StopsAs stop (record_of stream) → RanAtOnce wanted_shown result (check.wanted v given x words)
  record_stops stream stop is there stopped s =
      stop_handed wanted_shown (files_states s s) (check.wanted v given x words) result stop is
      (then_stop s s s (check.checked sender) on_stream stream stop (came_checked s sender stream there)
      (stop_then (files_states s s) stop (check.checked (record_of stream)) (on_record stream) (gives_ran (λ (r : Row). r) s (Err stop) (record_of stream) stopped)))

-- it is found
pub record_came : (v : View) (given : Data) (x : Execution) (words : WhyWords) (wanted : Wanted) → wanted.replica ≡ words.replica → check.sender_in v words.replica (find_stream v words.stream) ≡ Ok wanted.stream
    → check.record_in (check.record_at v given x wanted.stream words.replica words.index) ≡ Ok wanted.row → RanAtOnce wanted_shown (Ok wanted) (check.wanted v given x words)
record_came v given x words wanted same there row s =
    let result : Result Wanted Stop = Ok wanted in
    let found : trim.Wanted = record { stream = wanted.stream; replica = words.replica; row = wanted.row } in
    subst (λ n. Came (files_states s s) (check.wanted v given x words) (gave (record { stream = wanted.stream; replica = n; row = wanted.row }))) (sym same)
    (came_then s s s (check.checked (check.sender_in v words.replica (find_stream v words.stream))) (on_stream v given x words result) wanted.stream (gave found)
    (came_checked s (check.sender_in v words.replica (find_stream v words.stream)) wanted.stream there)
    (came_then s s s (check.checked (record_of v given x words result wanted.stream)) (on_record v given x words result wanted.stream) wanted.row (gave found)
    (came_checked s (record_of v given x words result wanted.stream) wanted.row row)
    (came_at_once s found)))

-- ---- the net

module _ (kinds : List ProgramKind) (v : View) (given : Data) (lines : List Line) (words : WhyWords) where
  abbrev on_run : Execution → Script trim.Wanted
  on_run x = check.wanted v given x words

  -- where the net isn't opened
  pub opening_looks : (result : Result Wanted Stop) (stop : Stop) → IsErrAnd result (λ given. given ≡ stop) → StopsAs stop (check.opened v (fault_of_opening v (λ k. k) kinds)) → RanAtOnce wanted_shown result (looking kinds v given lines words)
  opening_looks result stop is stopped s =
      stop_handed wanted_shown (files_states s s) (looking kinds v given lines words) result stop is
      (stop_then (files_states s s) stop (run_of kinds v given lines) on_run (opening_stops First kinds v given lines s stop stopped))

  -- where it is, and its lines are applied or one is refused
  pub net_looks : (loaded : List (Option Program)) (next : List Sets) (new : Books) (applied : Result (Unit {0}) StepRefusal) (outcome : Result Wanted Stop) → check.opened v (fault_of_opening v (λ k. k) kinds) ≡ Ok tt
      → Applied named.Event v given [] loaded next new lines (after_lines named.Event v given lines first_execution) applied → IsLookedIn v new words applied outcome → RanAtOnce wanted_shown outcome (looking kinds v given lines words)
  net_looks loaded next new (Ok done) outcome opens reaches said s =
      let x = execution_in reaches.stands.books in
      then_ran wanted_shown s s s (run_of kinds v given lines) on_run x outcome (run_came First kinds v given lines opens s x reaches.reached) (said given ([] ++ steps_of v lines) reaches.stands.books s)
  net_looks loaded next new (Err refused) (Ok wanted) opens stops said s = absurd said
  net_looks loaded next new (Err refused) (Err stop) opens stops said s =
      stop_then (files_states s s) stop (run_of kinds v given lines) on_run (run_stops First kinds v given lines opens s refused stop stops.0 said)
