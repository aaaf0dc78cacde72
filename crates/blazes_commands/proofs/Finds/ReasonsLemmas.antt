-- What a record that was found is known by: its schedule yields it, and the events that it needs can be printed.
use Rattle.std.proofs.Common.{◌≡◌, ◌∙◌, ◌<◌, inl, inr, ℕ, Bool, true, false, List, [], ◌∷◌, length, Option, None, Some, Result, Ok, Err, refl, sym, subst, ap}
use Rattle.std.specs.Prelude.{nat_lt, slice_get}
use Rattle.std.specs.List.{AllPass, list_all, list_any}
use Rattle.std.specs.List.Sorted.{IsPermutation}
use Rattle.std.specs.Option.{option_and_then}
use Rattle.std.specs.Result.{IsErrAnd}
use Rattle.std.proofs.lemmas.Bool.{and_from, and_parts}
use Rattle.std.proofs.lemmas.List.Sums.{AllPass-from_list_all}
use Rattle.bloom_eval.specs.declared.kind.ProgramKind.{ProgramKind}
use Rattle.blz_value.specs.Record.{Row}
use Rattle.blz_value.proofs.Membership.{any_from_Has}
use Rattle.blz_value.proofs.SetLaws.{Has-set_of}
use Rattle.sched_net.proofs.SeatsLemmas.{has-by_number}
use Rattle.inbox.specs.Executions.{Execution, contents, emitted_list, first_execution}
use Rattle.inbox.specs.Wiring.{wiring_of}
use Rattle.inbox.proofs.TimestepLemmas.Entries.{Has-rows_in}
use Rattle.messages.proofs.MessagesLemmas.{is_same_row-itself}
use Rattle.sched_net.specs.Bench.{fault_of_opening}
use Rattle.sched_net.specs.ScheduleLines.{Line}
use Rattle.sched_net.specs.Steps.{after_lines}
use Rattle.sched_net.specs.declared.step.Step.TheVariants as named
use Rattle.sched_text.specs.Text.{IsPrintable, is_printable}
use Rattle.topo_forms.specs.Data.{Data}
use Rattle.topo_forms.specs.Messages.{Message, row, seal, is_same_row, row_in, rows_in}
use Rattle.topo_forms.specs.View.{View, find_stream, stream_replicas}
use Rattle.why_trace.proofs.OpeningAgain.{opening_permuted}
use Rattle.why_trace.specs.Passes.{IsSublist}
use Rattle.why_trace.specs.Trim.{has_at_end, has_record, yields}
use Rattle.why_trace.specs.Trim as trim
use Rattle.witness_check.specs.declared.difference.Which.TheVariants.{First}
use Rattle.blazes_words.specs.Words.{WhyWords}
use Rattle.command_checks.specs.Ends.{Told, Source, source, files_states, Ends}
use Rattle.command_checks.specs.Ran.{RanAtOnce, answer_of}
use Rattle.command_checks.specs.Script.{◌>>=◌}
use Rattle.command_checks.specs.Script.Script.{gives}
use Rattle.command_checks.specs.Script.Ending.{gave}
use Rattle.command_checks.specs.declared.reply.Reply.{Reply}
use Rattle.command_checks.specs.declared.stop.Stop.{Stop}
use Rattle.blazes_commands.specs.Runs.Bench.{BenchStates}
use Rattle.blazes_commands.specs.Runs.Replies.{RepliesAtOnce}
use Rattle.blazes_commands.proofs.Runs.RepliesLemmas.{followed, stop_replies}
use Rattle.blazes_commands.specs.Finds.Checks as check
use Rattle.blazes_commands.specs.Finds.Code.Looked.{explained_by, wanted_shown}
use Rattle.blazes_commands.specs.Finds.Finds.{HasReasons, SaysReasons, finding, looking, run_of}
use Rattle.blazes_commands.specs.declared.find_calls.finding.Wanted.{Wanted}
use Rattle.blazes_commands.proofs.Finds.LookedLemmas.{is_there}
use Rattle.blazes_commands.proofs.Finds.NetLemmas.{run_gave}
use Rattle.blazes_commands.proofs.Finds.ScriptsLemmas.{checked_gave, then_gave}

-- ---- the record

record_is : (found : Option Row) (r : Row) → check.record_in found ≡ Ok r → found ≡ Some r
record_is None r is = absurd (cc)
record_is (Some q) r is = let same : q ≡ r = cc in ap (λ (z : Row). Some z) same

row_of : (found : Option Message) (r : Row) → option_and_then row_in found ≡ Some r → found ≡ Some (row r)
row_of None r is = absurd (cc)
row_of (Some (row q)) r is = let same : q ≡ r = cc in ap (λ (z : Row). Some (row z)) same
row_of (Some (seal k n)) r is = absurd (cc)

record_has : (v : View) (given : Data) (x : Execution) (s r n : ℕ) (q : Row) → nat_lt r (stream_replicas v s) ≡ true → check.record_at v given x s r n ≡ Some q → has_record v given (trim.wanted s r q) x ≡ true
record_has v given x s r n q sends is =
    let messages = emitted_list (wiring_of v) given x s r in
    and_from (nat_lt r (stream_replicas v s)) (list_any (is_same_row q) (contents (wiring_of v) given x s r)) sends
    (any_from_Has (is_same_row q) q (contents (wiring_of v) given x s r)
    (Has-set_of q (rows_in messages) (Has-rows_in q messages (has-by_number messages n (row q) (row_of (slice_get messages n) q is))))
    (is_same_row-itself q))

record_yielded : (v : View) (given : Data) (lines : List Line) (sought : trim.Wanted) (x : Execution) → after_lines named.Event v given lines first_execution ≡ Ok x → has_record v given sought x ≡ true → yields v given sought lines ≡ true
unfolding yields
record_yielded v given lines sought x is has = ap (has_at_end v given sought) is ∙ has

-- ---- what was found

-- what the script of a search tells of what it gave
pub record IsFound (kinds : List ProgramKind) (v : View) (given : Data) (lines : List Line) (wanted : trim.Wanted) : Type 0 where
  pub opens : fault_of_opening v (λ kind. kind) kinds ≡ None
  pub stream : wanted.stream < length v.streams
  pub yielded : yields v given wanted lines ≡ true

is_found : (told : Told) (kinds : List ProgramKind) (v : View) (given : Data) (lines : List Line) (words : WhyWords) (wanted : trim.Wanted) → Ends told (looking kinds v given lines words) (gave wanted) → IsFound kinds v given lines wanted
is_found told kinds v given lines words wanted ends =
    let run = then_gave told (run_of kinds v given lines) (λ x. check.wanted v given x words) wanted ends in
    let ran = run_gave First kinds v given lines told run.0 run.1 in
    let stream = then_gave told (check.checked (check.sender_in v words.replica (find_stream v words.stream)))
    (λ stream. check.checked (check.record_in (check.record_at v given run.0 stream words.replica words.index)) >>= λ row. gives (record { stream = stream; replica = words.replica; row = row })) wanted run.2 in
    let row = then_gave told (check.checked (check.record_in (check.record_at v given run.0 stream.0 words.replica words.index))) (λ row. gives (record { stream = stream.0; replica = words.replica; row = row })) wanted stream.2 in
    let same : wanted ≡ trim.wanted stream.0 words.replica row.0 = cc in
    let sent = is_there v words.stream words.replica stream.0 (checked_gave told (check.sender_in v words.replica (find_stream v words.stream)) stream.0 stream.1) in
    let found = record_is (check.record_at v given run.0 stream.0 words.replica words.index) row.0 (checked_gave told (check.record_in (check.record_at v given run.0 stream.0 words.replica words.index)) row.0 row.1) in
    subst (IsFound kinds v given lines) (sym same) (record {
      opens = ran.0;
      stream = sent.within;
      yielded = record_yielded v given lines (trim.wanted stream.0 words.replica row.0) run.0 ran.1 (record_has v given run.0 stream.0 words.replica words.index row.0 sent.sends found);
    })

-- so a part of the program does that ran it
pub looked_found : (kinds : List ProgramKind) (v : View) (given : Data) (lines : List Line) (words : WhyWords) (wanted : Wanted) → RanAtOnce wanted_shown (Ok wanted) (looking kinds v given lines words) → IsFound kinds v given lines (wanted_shown wanted)
looked_found kinds v given lines words wanted ran =
    let nowhere : Source = source None false 0 in
    is_found nowhere.told kinds v given lines words (wanted_shown wanted) (ran nowhere).ends

-- and the bench serves for another net
pub found_opens : (kinds middle : List ProgramKind) (v : View) (given : Data) (lines : List Line) (wanted : trim.Wanted) → IsFound kinds v given lines wanted → IsPermutation kinds middle → fault_of_opening v (λ kind. kind) middle ≡ None
found_opens kinds middle v given lines wanted found kept = sym (opening_permuted v kinds middle kept) ∙ found.opens

-- ---- the events that are needed

part_passes : {X : Type 0} (test : X → Bool) (part whole : List X) → IsSublist part whole → list_all test whole ≡ true → list_all test part ≡ true
part_passes {X} test part [] is all = subst (λ (l : List X). list_all test l ≡ true) (sym is) refl
part_passes test part (x ∷ xs) (inl later) all = part_passes test part xs later (and_parts (test x) (list_all test xs) all).1
part_passes {X} test part (x ∷ xs) (inr (rest, starts, later)) all =
    let parts = and_parts (test x) (list_all test xs) all in
    subst (λ (l : List X). list_all test l ≡ true) (sym starts) (and_from (test x) (list_all test rest) parts.0 (part_passes test rest xs later parts.1))

pub part_printable : (reasons lines : List Line) → IsSublist reasons lines → IsPrintable lines → AllPass (λ reason. is_printable reason.1) reasons
part_printable reasons lines part printable =
    AllPass-from_list_all (λ (reason : Line). is_printable reason.1) reasons (part_passes (λ (reason : Line). is_printable reason.1) reasons lines part printable.events)

-- ---- the command

module _ (bench : BenchStates) (v : View) (given : Data) (lines : List Line) (words : WhyWords) (result : Result Reply Stop) where
  -- the search stops
  pub search_stops : (stop : Stop) → IsErrAnd result (λ given. given ≡ stop) → RanAtOnce wanted_shown (Err stop) (looking bench.kinds v given lines words) → RepliesAtOnce SaysReasons bench result (finding bench.kinds v given lines words)
  search_stops stop is stopped s = stop_replies SaysReasons (files_states s s) bench (looking bench.kinds v given lines words) (λ wanted. gives (explained_by v given lines wanted)) result stop is (stopped s)

  -- or the record was found, and what it needs is said
  pub found_replies : (wanted : Wanted) (reply : Reply) → result ≡ Ok reply → RanAtOnce wanted_shown (Ok wanted) (looking bench.kinds v given lines words) → HasReasons (explained_by v given lines (wanted_shown wanted)) (answer_of reply)
      → RepliesAtOnce SaysReasons bench result (finding bench.kinds v given lines words)
  found_replies wanted reply is ran says =
      subst (λ (r : Result Reply Stop). RepliesAtOnce SaysReasons bench r (finding bench.kinds v given lines words)) (sym is)
      (λ s. followed SaysReasons s s bench (looking bench.kinds v given lines words) (explained_by v given lines) (wanted_shown wanted) (answer_of reply) (ran s) says)
