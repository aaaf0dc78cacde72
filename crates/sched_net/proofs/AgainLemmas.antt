-- Books whose lists went back to those of the sources stand for no step, and a net that was run over data can go back to where it was opened.
use Rattle.std.proofs.Common.{◌≡◌, ◌<◌, ◌≤◌, ◌+◌, ◌++◌, ℕ, zero, suc, Option, None, true≢false, List, [], Result, Ok, Err, length, map, set, get_or, take, refl, ap, ◌∙◌, sym, subst, inl, inr, arith}
use Rattle.std.proofs.lemmas.Bool.{cases_eq}
use Rattle.std.proofs.lemmas.List.{get_or-map, get_or_default, length-map, get_or-set_same, get_or-set_other, same_lists}
use Rattle.blz_value.proofs.Lists.{map_twice}
use Rattle.bloom_forms.specs.declared.program.Program.{Program}
use Rattle.bloom_forms.specs.Step.{Sets}
use Rattle.bloom_eval.specs.Step.{nothing_kept}
use Rattle.topo_forms.specs.Data.{Data}
use Rattle.topo_forms.specs.Messages.{Message}
use Rattle.topo_forms.specs.Valid.{IsValid}
use Rattle.topo_forms.specs.View.{View, origin_of, senders_of, program_of, source_count, stream_replicas}
use Rattle.topo_forms.proofs.KeyOfSource.{source_stream}
use Rattle.messages.specs.Lists.{Listed, KeepsFirst, read_list, read_lists}
use Rattle.messages.specs.declared.fault.EventFault.{EventFault}
use Rattle.messages.specs.declared.fault.EventFault.TheVariants.{NoInstance, NoMessage, NothingToTake, TooManyRows, TooManyMessages, NoMemory}
use Rattle.inbox.specs.Events.{Step}
use Rattle.inbox.specs.Executions.{Execution, first_execution}
use Rattle.inbox.specs.Places.{places_before, list_place, list_count}
use Rattle.inbox.specs.Sources.{SourcesEmitted}
use Rattle.inbox.proofs.PlacesLemmas.{before-more, before-le}
use Rattle.sched_net.specs.Again.{StoodOver}
use Rattle.sched_net.specs.Bench.{instance_components}
use Rattle.sched_net.specs.Code.GoingBack.{BooksStoodOver, RanBefore}
use Rattle.sched_net.specs.Net.{BooksStand, Stands, Leaves}
use Rattle.sched_net.specs.Steps.{Applied, Applies, after_lines, numbered_step, steps_in}
use Rattle.sched_net.specs.declared.books.Books.{Books}
use Rattle.sched_net.specs.declared.running.StepRefusal.{StepRefusal}
use Rattle.sched_net.specs.declared.step.Step.{Step as NamedStep}
use Rattle.sched_net.proofs.FirstLemmas.{applied_first}

-- ---- the lists of sources stand first

module _ (v : View) (valid : IsValid v) where
  no_origin : (s : ℕ) → s < source_count v → origin_of v s ≡ None
  no_origin s below = (valid.numbered.sources s (omega (arith, below, source_stream v))).1 below

  sends_one : (s : ℕ) → s < source_count v → stream_replicas v s ≡ 1
  sends_one s below = ap (senders_of v) (no_origin s below)

  -- each at the place of its number
  pub sources_before : (n : ℕ) → n ≤ source_count v → places_before (stream_replicas v) n ≡ n
  sources_before zero within = refl
  sources_before (suc n) within =
      (let e : suc n ≡ n + 1 = omega arith in ap (places_before (stream_replicas v)) e)
      ∙ before-more (stream_replicas v) n
      ∙ (let one : stream_replicas v n ≡ 1 = sends_one n (omega (arith, within)) in let rest : places_before (stream_replicas v) n ≡ n = sources_before n (omega (arith, within)) in omega (arith, one, rest))

  source_place : (s : ℕ) → s < source_count v → list_place v s 0 ≡ s
  source_place s below = (let rest : places_before (stream_replicas v) s ≡ s = sources_before s (omega (arith, below)) in omega (arith, rest))

  -- so many lists there are at least, by the ids of their records too
  pub source_lists : (first : ℕ) (l : Listed) → first ≡ source_count v → length (read_lists l) ≡ list_count v → first ≤ length l.lists
  source_lists first l is count = omega (
    arith,
    is,
    count,
    length-map l.lists (read_list l.records),
    before-le (stream_replicas v) (source_count v) (length v.streams) (omega (arith, source_stream v)),
    sources_before (source_count v) (omega arith),
  )

  -- lists of which those of the sources are kept have what the sources emit
  pub back_to_sources : (given : Data) (steps : List Step) (b : Books) (first : ℕ) (new : List (List Message)) → first ≡ source_count v → BooksStand v given steps b → KeepsFirst first (read_lists b.lists) new → SourcesEmitted v given (source_count v) new
  back_to_sources given steps b first new is stand kept =
      let keeps : KeepsFirst (source_count v) (read_lists b.lists) new = subst (λ (n : ℕ). KeepsFirst n (read_lists b.lists) new) is kept in
      record {
        count = keeps.count ∙ stand.shows.count;
        emitted = λ s below.
            keeps.kept (list_place v s 0) (omega (arith, source_place s below, below))
            ∙ stand.shows.sources s (omega (arith, below, source_stream v)) (no_origin s below);
        others = λ s r from there sends.
            keeps.emptied (list_place v s r) (omega (arith, before-le (stream_replicas v) (source_count v) s from, sources_before (source_count v) (omega arith)));
      }

-- ---- shells

-- the tables of shells that keep nothing are those of shells that were just loaded
pub cleared_tables : (v : View) (loaded : List (Option Program)) (tables : List Sets) → loaded ≡ map (program_of v) (instance_components v) → tables ≡ map nothing_kept loaded → tables ≡ map (λ c. nothing_kept (program_of v c)) (instance_components v)
cleared_tables v loaded tables are is = is ∙ ap (map nothing_kept) are ∙ map_twice nothing_kept (program_of v) (instance_components v)

-- shells that are emptied one by one, of which none gets another program
module _ {X : Type 0} (loads : X → Option Program) (keeps : X → Sets) (first now : List X) (place : ℕ) (loaded : map loads now ≡ map loads first) where
  as_many : length now ≡ length first
  as_many = sym (length-map now loads) ∙ ap length loaded ∙ length-map first loads

  -- one more keeps nothing
  pub one_cleared : (next : List X) → place < length first → map keeps next ≡ set (map keeps now) place (nothing_kept (get_or (map loads now) place None))
      → ((k : ℕ) → k < place → get_or (map keeps now) k [] ≡ nothing_kept (get_or (map loads first) k None)) → (k : ℕ) → k < place + 1 → get_or (map keeps next) k [] ≡ nothing_kept (get_or (map loads first) k None)
  one_cleared next within is before k less = elim (cases_eq k place) [
    | inl same ↦
        ap (λ (l : List Sets). get_or l k []) is
        ∙ ap (λ (n : ℕ). get_or (set (map keeps now) place (nothing_kept (get_or (map loads now) place None))) n []) same
        ∙ get_or-set_same (map keeps now) place (nothing_kept (get_or (map loads now) place None)) [] (omega (arith, within, as_many, length-map now keeps))
        ∙ ap (λ (l : List (Option Program)). nothing_kept (get_or l place None)) loaded
        ∙ ap (λ (n : ℕ). nothing_kept (get_or (map loads first) n None)) (sym same)
    | inr differ ↦
        ap (λ (l : List Sets). get_or l k []) is
        ∙ get_or-set_other (map keeps now) place k (nothing_kept (get_or (map loads now) place None)) [] differ
        ∙ before k (omega (arith, less, differ))
  ]

  -- up to the end
  pub all_cleared : length first ≤ place → ((k : ℕ) → k < place → get_or (map keeps now) k [] ≡ nothing_kept (get_or (map loads first) k None)) → map keeps now ≡ map nothing_kept (map loads first)
  all_cleared ends each = same_lists (map keeps now) (map nothing_kept (map loads first))
      (length-map now keeps ∙ as_many ∙ sym (length-map first loads) ∙ sym (length-map (map loads first) nothing_kept))
      (λ k d within.
      get_or_default (map keeps now) k d [] within
      ∙ each k (omega (arith, within, ends, as_many, length-map now keeps))
      ∙ sym (get_or-map nothing_kept (map loads first) k None d (omega (arith, within, as_many, length-map now keeps, length-map first loads))))

-- ---- a run

-- after a step that was refused
stood_left : (v : View) (given : Data) (steps : List Step) (loaded : List (Option Program)) (tables : List Sets) (b : Books) (step : Step) (fault : EventFault) → Leaves v given steps loaded tables b step (Err fault) → StoodOver v given loaded tables b
stood_left v given steps loaded tables b step NoInstance stands = λ runs. (steps, stands)
stood_left v given steps loaded tables b step NoMessage stands = λ runs. (steps, stands)
stood_left v given steps loaded tables b step NothingToTake stands = λ runs. (steps, stands)
stood_left v given steps loaded tables b step TooManyRows ended = λ runs. absurd (true≢false (sym ended ∙ runs))
stood_left v given steps loaded tables b step TooManyMessages ended = λ runs. absurd (true≢false (sym ended ∙ runs))
stood_left v given steps loaded tables b step NoMemory ended = λ runs. absurd (true≢false (sym ended ∙ runs))

stood_after : {X : Type 0} (step : X → NamedStep) (v : View) (given : Data) (lines : List (ℕ × X)) (loaded : List (Option Program)) (tables : List Sets) (b : Books) (after : Result Execution StepRefusal) (applied : Result (Unit {0}) StepRefusal)
    → Applied step v given [] loaded tables b lines after applied → StoodOver v given loaded tables b
stood_after step v given lines loaded tables b after (Ok done) reaches = λ runs. ([] ++ steps_in step v lines, reaches.stands)
stood_after step v given lines loaded tables b after (Err refusal) stops = stood_left v given ([] ++ steps_in step v (take stops.1.count lines)) loaded tables b (numbered_step v (step stops.1.refused)) refusal.fault stops.1.leaves

-- a net that was new when it was run stood over its data
pub run_over : {X : Type 0} (step : X → NamedStep) (v w : View) (given : Data) (lines : List (ℕ × X)) (loaded : List (Option Program)) (tables next : List Sets) (old new : Books) (applied : Result (Unit {0}) StepRefusal)
    → w ≡ v → Stands v given [] loaded tables old → Applies step w loaded tables next old new lines applied → StoodOver v given loaded next new
run_over step v w given lines loaded tables next old new applied same stands applies =
    stood_after step v given lines loaded next new (after_lines step v given lines first_execution) applied (applied_first step v w given lines loaded tables next old new applied same stands applies)

-- so do its books, and these run
pub books_over : (v : View) (given : Data) (loaded : List (Option Program)) (tables : List Sets) (b : Books) → StoodOver v given loaded tables b → BooksStoodOver v given b
books_over v given loaded tables b stood = λ runs. let s = stood runs in (s.0, s.1.books)

pub books_ran : (v : View) (given : Data) (b : Books) → BooksStoodOver v given b → RanBefore v b
books_ran v given b stood = λ runs. let s = stood runs in record { given = given; steps = s.0; stand = s.1 }
