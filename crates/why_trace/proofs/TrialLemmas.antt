-- A trial answers whether its lines yield the record.
use Rattle.std.proofs.Common.{◌≡◌, ◌∙◌, ◌++◌, ◌<◌, ◌≤◌, ◌&&◌, ◌||◌, Bool, true, false, nat_lt, List, [], ◌∷◌, Bor, Option, Result, Ok, Err, inl, inr, map, refl, sym, subst, ap, arith}
use Rattle.std.specs.Cmp.{eq_by_cmp_equiv}
use Rattle.std.specs.List.{list_any}
use Rattle.std.specs.List.Sorted.{IsPermutation}
use Rattle.std.proofs.lemmas.List.{map-append}
use Rattle.std.proofs.lemmas.Bool.{cases_Bool}
use Rattle.std.proofs.lemmas.Bool.Decides.{nat_tests}
use Rattle.blz_set.specs.References.{shown}
use Rattle.blz_value.specs.Record.{Row}
use Rattle.blz_value.specs.RecordOrder.{record_cmp_total}
use Rattle.bloom_forms.specs.declared.program.Program.{Program}
use Rattle.bloom_forms.specs.Step.{Sets}
use Rattle.topo_forms.specs.Messages.{is_same_row}
use Rattle.topo_forms.specs.View.{View, stream_replicas}
use Rattle.inbox.specs.Executions.{Execution, first_execution, contents}
use Rattle.inbox.specs.Wiring.{wiring_of}
use Rattle.sched_net.specs.Net.{Stands, execution_in}
use Rattle.sched_net.specs.declared.books.Books.{Books}
use Rattle.sched_net.specs.ScheduleLines.{Line, steps_of}
use Rattle.sched_net.specs.Steps.{after_lines, Applied, Applies}
use Rattle.sched_net.specs.Reading.{IsRead}
use Rattle.sched_net.specs.declared.running.StepRefusal.{StepRefusal}
use Rattle.sched_net.specs.declared.step.Step.TheVariants as named
use Rattle.sched_net.proofs.FirstLemmas.{applied_first}
use Rattle.why_trace.specs.Trim.{Wanted, has_record, has_at_end, yields}
use Rattle.why_trace.specs.Code.Trials.{Sought, is_yielded_by, TellsFound}

-- ---- the record among the contents

-- a test of the rows behind references is the test by which the definition asks
any_shown : (r : Row) (refs : List (Bor Row)) → list_any (λ (y : Bor Row). is_same_row y.now r) refs ≡ list_any (is_same_row r) (shown refs)
any_shown r [] = refl
any_shown r (y ∷ refs) =
    ap (λ t. t || list_any (λ (z : Bor Row). is_same_row z.now r) refs) ((eq_by_cmp_equiv record_cmp_total).symm y.now r)
    ∙ ap (λ t. is_same_row r y.now || t) (any_shown r refs)

module _ (v : View) (b : Books) (sought : Wanted) (rows : List Row) (found : Bool) (tells : found ≡ list_any (is_same_row sought.row) rows) where
  -- where the replica sends the stream
  record_sent : nat_lt sought.replica (stream_replicas v sought.stream) ≡ true → IsRead v b (λ given x. contents (wiring_of v) given x sought.stream sought.replica) rows
      → IsRead v b (λ given x. has_record v given sought x) found
  record_sent sends read given steps stand =
      tells
      ∙ ap (λ (l : List Row). list_any (is_same_row sought.row) l) (read given steps stand)
      ∙ ap (λ t. t && list_any (is_same_row sought.row) (contents (wiring_of v) given (execution_in stand) sought.stream sought.replica)) (sym sends)

  -- and where it doesn't
  record_unsent : nat_lt sought.replica (stream_replicas v sought.stream) ≡ false → rows ≡ [] → IsRead v b (λ given x. has_record v given sought x) found
  record_unsent sends none given steps stand =
      tells
      ∙ ap (λ (l : List Row). list_any (is_same_row sought.row) l) none
      ∙ ap (λ t. t && list_any (is_same_row sought.row) (contents (wiring_of v) given (execution_in stand) sought.stream sought.replica)) (sym sends)

  record_told : (sought.replica < stream_replicas v sought.stream → IsRead v b (λ given x. contents (wiring_of v) given x sought.stream sought.replica) rows)
      → (stream_replicas v sought.stream ≤ sought.replica → rows ≡ []) → IsRead v b (λ given x. has_record v given sought x) found
  record_told read none = elim (cases_Bool (nat_lt sought.replica (stream_replicas v sought.stream))) [
    | inl e ↦ record_sent e (read (grind (arith, nat_tests)))
    | inr e ↦ record_unsent e (none (grind (arith, nat_tests)))
  ]

-- as a net of an equal topology says it
pub record_in : (v w : View) (b : Books) (sought : Wanted) (refs : List (Bor Row)) (found : Bool) → found ≡ list_any (λ (y : Bor Row). is_same_row y.now sought.row) refs → w ≡ v
    → (sought.replica < stream_replicas w sought.stream → IsRead w b (λ given x. contents (wiring_of w) given x sought.stream sought.replica) (shown refs)) → (stream_replicas w sought.stream ≤ sought.replica → shown refs ≡ [])
    → IsRead v b (λ given x. has_record v given sought x) found
record_in v w b sought refs found tells same read none =
    record_told v b sought (shown refs) found (tells ∙ any_shown sought.row refs)
    (subst (λ (u : View). sought.replica < stream_replicas u sought.stream → IsRead u b (λ given x. contents (wiring_of u) given x sought.stream sought.replica) (shown refs)) same read)
    (subst (λ (u : View). stream_replicas u sought.stream ≤ sought.replica → shown refs ≡ []) same none)

-- ---- lines that were applied

-- what is found in it is what the lines end with
found_where : (sought : Sought) (lines : List Line) (loaded : List (Option Program)) (next : List Sets) (new : Books) (after : Result Execution StepRefusal) (applied : Result (Unit {0}) StepRefusal) (found : Bool)
    → Applied named.Event sought.view sought.given [] loaded next new lines after applied → TellsFound sought new applied found → found ≡ has_at_end sought.view sought.given sought.wanted after
found_where sought lines loaded next new after (Ok done) found reaches tells =
    tells sought.given ([] ++ steps_of sought.view lines) reaches.stands.books ∙ ap (has_at_end sought.view sought.given sought.wanted) (sym reaches.reached)
found_where sought lines loaded next new after (Err refusal) found stops tells =
    tells.1 ∙ ap (has_at_end sought.view sought.given sought.wanted) (sym (stops.0 tells.0))

pub found_yielded : (sought : Sought) (w : View) (lines : List Line) (loaded : List (Option Program)) (tables next : List Sets) (old new : Books) (applied : Result (Unit {0}) StepRefusal) (found : Bool) → w ≡ sought.view
    → Stands sought.view sought.given [] loaded tables old → Applies named.Event w loaded tables next old new lines applied → TellsFound sought new applied found → found ≡ is_yielded_by sought lines
unfolding yields
found_yielded sought w lines loaded tables next old new applied found same stands applies tells =
    found_where sought lines loaded next new (after_lines named.Event sought.view sought.given lines first_execution) applied found (applied_first named.Event sought.view w sought.given lines loaded tables next old new applied same stands applies) tells

-- ---- the bench

-- shells that go back behind the others, whose kinds a run left
pub kinds_back : {X K : Type 0} (k : X → K) (old : List K) (between after opened closed : List X) → IsPermutation old (map k between ++ map k opened)
    → map k closed ≡ map k opened → after ≡ between ++ closed → IsPermutation old (map k after)
kinds_back k old between after opened closed all same is =
    subst (IsPermutation old) (sym (ap (map k) is ∙ map-append k between closed ∙ ap (λ l. map k between ++ l) same)) all
