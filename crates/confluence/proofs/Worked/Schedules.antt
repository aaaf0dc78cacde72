-- Two complete executions of word count, planned, that go by different schedules, and a third in which an instance forgets: they meet all premises, and the laws say what they share.
use Rattle.std.proofs.Common.{◌≡◌, ◌<◌, refl, sym, subst, ℕ, zero, suc, Bool, true, false, ◌++◌, map, List, [], ◌∷◌, Some, None, codes, arith, Option, ◌==◌}
use Rattle.std.specs.Prelude.{Result, Ok, Err}
use Rattle.std.specs.Option.{option_map_or}
use Rattle.std.proofs.lemmas.Bool.{eqb-true, ltb-true}
use Rattle.blz_value.specs.Record.{Row}
use Rattle.blz_value.proofs.Membership.{Has-from_filter}
use Rattle.blz_value.specs.Bits.{bit_of, meets}
use Rattle.blz_value.specs.Closure.{within, closure, step}
use Rattle.blz_value.proofs.Ranges.{Has-below as from_below}
use Rattle.bloom_forms.specs.declared.program.Program.{Program}
use Rattle.bloom_forms.specs.declared.program.Program.TheVariants.{Module, Split}
use Rattle.bloom_forms.specs.ProgramStep.{answer_of}
use Rattle.bloom_forms.specs.Step.{set_at}
use Rattle.bloom_forms.specs.declared.mode.Mode.{Mode}
use Rattle.bloom_forms.specs.declared.mode.Mode.TheVariants as mode
use Rattle.topo_forms.specs.Carried.{carries, carriers}
use Rattle.topo_forms.specs.Dependencies.{usable_fds}
use Rattle.topo_forms.specs.Feeds.{Feed}
use Rattle.topo_forms.specs.Messages.{row, seal}
use Rattle.topo_forms.specs.View.{comes_from, has_body, End, origin_of, stream_numbers, stream_replicas}
use Rattle.topo_forms.proofs.Worked.WordCount.{batch, count_module, commit_module}
use Rattle.label_walk.specs.Paths.{label_at}
use Rattle.inbox.specs.Instances.{Instance}
use Rattle.inbox.specs.Wiring.{Wiring, wiring_of, is_there, carried_places}
use Rattle.inbox.specs.Events.{Part, Event, deliver, Step, event, forget, Refusal}
use Rattle.inbox.specs.Events as events
use Rattle.inbox.specs.Executions.{Execution, first_execution, execution_of, execution_of_events, emitted_list, contents}
use Rattle.inbox.specs.Completeness.{left_count, held_count_at, IsComplete}
use Rattle.confluence.specs.Complete.{IsRun, IsCompleted, contents_into}
use Rattle.confluence.specs.Honest.{IsHonest}
use Rattle.confluence.specs.Sound.{Reaches, itself, onward, IsBodied, IsSteady}
use Rattle.confluence.proofs.Honest.HonestLaw.{honest_law}
use Rattle.confluence.proofs.Regions.RegionLaw.{region_law, completed_run}
use Rattle.confluence.proofs.Worked.WordCount.{v, valid, labels, are_labels, tweets, is_data, holds, int, text}
use Rattle.confluence.proofs.Regions.Induction.{strong_law}

-- ---- the instances

abbrev feed : (stream sender : ℕ) → Feed
feed stream sender = record { port = 0; stream = stream; sender = sender }

abbrev instance : Program → Mode → (place : ℕ) → Feed → Instance
instance program by place from = record { program = Some program; mode = by; ports = record { places = Some (place ∷ []); carries = true } ∷ []; feeds = from ∷ []; outputs = Some (1 ∷ []) ∷ [] }

abbrev count : Instance
count = instance (Module count_module) (mode.Seal batch) 1 (feed 1 0)

abbrev commit : (sender : ℕ) → Instance
commit sender = instance (Module commit_module) (mode.Pass batch) 1 (feed 2 sender)

-- both replicas of count hear the words, and each replica of commit hears one of them
abbrev w : Wiring
w = record {
  streams = v.streams;
  components =
      (instance (Split (codes "id" ∷ codes "text" ∷ codes "batch" ∷ []) 1) (mode.Pass batch) 2 (feed 0 0) ∷ [])
      ∷ (count ∷ count ∷ [])
      ∷ (commit 0 ∷ commit 1 ∷ [])
      ∷ [];
}

wired : wiring_of v ≡ w
unfolding wiring_of carries carriers usable_fds bit_of meets within closure step
wired = refl

-- ---- the schedules

abbrev part : (stream sender index : ℕ) → Part
part stream sender index = record { sent = record { stream = stream; replica = sender; index = index }; port = 0 }

-- some messages of a stream go to an instance, one by one
abbrev to : (stream sender component replica : ℕ) → List ℕ → List Event
to stream sender component replica indexes = map (λ index. deliver (part stream sender index) component replica) indexes

-- in the order in which they were emitted
abbrev in_order : List Event
in_order =
    to 0 0 0 0 (0 ∷ 1 ∷ 2 ∷ 3 ∷ 4 ∷ [])
    ++ (to 1 0 1 0 (0 ∷ 1 ∷ 2 ∷ 3 ∷ 4 ∷ 5 ∷ 6 ∷ []) ++ (to 1 0 1 1 (0 ∷ 1 ∷ 2 ∷ 3 ∷ 4 ∷ 5 ∷ 6 ∷ [])
    ++ (to 2 0 2 0 (0 ∷ 1 ∷ 2 ∷ 3 ∷ 4 ∷ []) ++ to 2 1 2 1 (0 ∷ 1 ∷ 2 ∷ 3 ∷ 4 ∷ []))))

-- the last first, at the second replica of count all at once, and some twice
abbrev turned_round : List Event
turned_round =
    to 0 0 0 0 (4 ∷ 3 ∷ 2 ∷ 1 ∷ 0 ∷ 3 ∷ [])
    ++ (to 1 0 1 0 (6 ∷ 5 ∷ 4 ∷ 3 ∷ 2 ∷ 1 ∷ 0 ∷ []) ++ (events.batch (map (part 1 0) (6 ∷ 5 ∷ 4 ∷ 3 ∷ 2 ∷ 1 ∷ 0 ∷ [])) 1 1
    ∷ (to 2 0 2 0 (4 ∷ 3 ∷ 2 ∷ 1 ∷ 0 ∷ []) ++ to 2 1 2 1 (4 ∷ 3 ∷ 2 ∷ 1 ∷ 0 ∷ 0 ∷ []))))

-- as first, and then the first replica of count forgets and hears all words again
abbrev restarted : List Step
restarted = map event in_order ++ forget 1 0 ∷ map event (to 1 0 1 0 (6 ∷ 5 ∷ 4 ∷ 3 ∷ 2 ∷ 1 ∷ 0 ∷ []))

-- ---- what they reach

abbrev ran : Result Execution Refusal → Execution
ran (Ok x) = x
ran (Err refusal) = first_execution

abbrev is_legal : Result Execution Refusal → Bool
is_legal (Ok x) = true
is_legal (Err refusal) = false

legal_ran : (result : Result Execution Refusal) → is_legal result ≡ true → result ≡ Ok (ran result)
legal_ran (Ok x) e = refl
legal_ran (Err refusal) e = cc

abbrev first : Execution
first = ran (execution_of_events w tweets in_order)

abbrev second : Execution
second = ran (execution_of_events w tweets turned_round)

abbrev third : Execution
third = ran (execution_of w tweets restarted)

-- an execution is complete where nothing is left and none of the five instances holds a record
complete_by : (x : Execution) → left_count w tweets x ≡ 0 → held_count_at w x 0 0 ≡ 0 → held_count_at w x 1 0 ≡ 0 → held_count_at w x 1 1 ≡ 0 → held_count_at w x 2 0 ≡ 0 → held_count_at w x 2 1 ≡ 0 → IsComplete w tweets x
complete_by x left a b c d e = record { left = left; held = held }
  where
    held : (component replica : ℕ) → is_there w component replica ≡ true → held_count_at w x component replica ≡ 0
    held zero zero there = a
    held (suc zero) zero there = b
    held (suc zero) (suc zero) there = c
    held (suc (suc zero)) zero there = d
    held (suc (suc zero)) (suc zero) there = e
    held zero (suc replica) there = let lt : suc replica < 1 = ltb-true (suc replica) 1 there in absurd (omega (arith, lt))
    held (suc zero) (suc (suc replica)) there = let lt : suc (suc replica) < 2 = ltb-true (suc (suc replica)) 2 there in absurd (omega (arith, lt))
    held (suc (suc zero)) (suc (suc replica)) there = let lt : suc (suc replica) < 2 = ltb-true (suc (suc replica)) 2 there in absurd (omega (arith, lt))
    held (suc (suc (suc component))) replica there = let lt : replica < 0 = ltb-true replica 0 there in absurd (omega (arith, lt))

first_run : IsRun w tweets first
unfolding bit_of meets
first_run = record { events = in_order; legal = legal_ran (execution_of_events w tweets in_order) refl; complete = complete_by first refl refl refl refl refl refl }

second_run : IsRun w tweets second
unfolding bit_of meets
second_run = record { events = turned_round; legal = legal_ran (execution_of_events w tweets turned_round) refl; complete = complete_by second refl refl refl refl refl refl }

third_run : IsCompleted w tweets third
unfolding bit_of meets
third_run = record { steps = restarted; legal = legal_ran (execution_of w tweets restarted) refl; complete = complete_by third refl refl refl refl refl refl }

-- ---- what they share

-- a word with its batch and how often it stands there
abbrev counted : (word : List ℕ) → (batch n : ℕ) → Row
counted word batch n = text word ∷ int batch ∷ int n ∷ []

abbrev a : List ℕ
a = codes "a"

abbrev b : List ℕ
b = codes "b"

-- the commits come in different orders
pub first_commits : emitted_list w tweets first 3 0 ≡ row (counted a 1 2) ∷ row (counted b 1 2) ∷ seal (int 1 ∷ []) 2 ∷ row (counted a 2 1) ∷ seal (int 2 ∷ []) 1 ∷ []
unfolding bit_of meets
first_commits = refl

pub second_commits : emitted_list w tweets second 3 1 ≡ row (counted b 1 2) ∷ row (counted a 2 1) ∷ seal (int 2 ∷ []) 1 ∷ row (counted a 1 2) ∷ seal (int 1 ∷ []) 2 ∷ []
unfolding bit_of meets
second_commits = refl

-- a stream that comes from a component comes from one of the three
one_of_three : (c s : ℕ) → s < 4 → comes_from v c s ≡ true → c < 3
one_of_three c s lt e = by_origin (origin_of v s) refl e
  where
    by_origin : (origin : Option End) → origin_of v s ≡ origin → option_map_or (λ output. output.0 == c) origin false ≡ true → c < 3
    by_origin None from e = cc
    by_origin (Some output) from e = subst (λ n. n < 3) (eqb-true output.0 c e) (valid.numbered.origins s output lt from).0

-- so each component from which one of them can be reached is, and has a body
reached : (c from : ℕ) → c < 3 → Reaches v c from → from < 3
reached c from lt itself = lt
reached c from lt (onward other stream next stands goes reaches) =
    let m = Has-from_filter (comes_from v from) stream (stream_numbers v) stands in
    one_of_three from stream (from_below 4 stream m.0) m.1

have_bodies : (c : ℕ) → c < 3 → has_body v c ≡ true
have_bodies zero lt = refl
have_bodies (suc zero) lt = refl
have_bodies (suc (suc zero)) lt = refl
have_bodies (suc (suc (suc c))) lt = absurd (omega (arith, lt))

bodied : (s : ℕ) → s < 4 → IsBodied v s
bodied s lt c from of reaches = have_bodies from (reached c from (one_of_three c s lt of) reaches)

-- ---- the laws, read off

places : carried_places v 1 ≡ Some (1 ∷ [])
unfolding carries carriers usable_fds bit_of meets within closure step
places = refl

run_of : (x : Execution) → IsRun w tweets x → IsRun (wiring_of v) tweets x
run_of x run = subst (λ z. IsRun z tweets x) (sym wired) run

-- each stream has equal contents in every replica of both
pub shared : (s i j : ℕ) → s < 4 → i < stream_replicas v s → j < stream_replicas v s → contents w tweets first s i ≡ contents w tweets second s j
shared s i j lt lt_i lt_j =
    let sound = region_law v labels valid are_labels tweets s is_data holds lt (bodied s lt) in
    subst (λ z. contents z tweets first s i ≡ contents z tweets second s j) wired (sound.schedules (steady s lt) first second (run_of first first_run) (run_of second second_run) i j lt_i lt_j)
  where
    steady : (s : ℕ) → s < 4 → IsSteady (label_at labels s)
    steady zero lt = tt
    steady (suc zero) lt = tt
    steady (suc (suc zero)) lt = tt
    steady (suc (suc (suc zero))) lt = tt
    steady (suc (suc (suc (suc s)))) lt = absurd (omega (arith, lt))

-- among them the commits, of which these are the records
pub commits_shared : contents w tweets first 3 0 ≡ contents w tweets second 3 1
commits_shared = shared 3 0 1 (omega arith) (omega arith) (omega arith)

pub commits : contents w tweets first 3 0 ≡ counted a 1 2 ∷ counted a 2 1 ∷ counted b 1 2 ∷ []
unfolding bit_of meets
commits = refl

-- they are the one-step answer to all that arrives
pub commits_answer : contents w tweets second 3 1 ≡ set_at (answer_of (Module commit_module) (contents_into w tweets second 2 1)) 0
commits_answer =
    let sound = region_law v labels valid are_labels tweets 3 is_data holds (omega arith) (bodied 3 (omega arith)) in
    subst (λ z. contents z tweets second 3 1 ≡ set_at (answer_of (Module commit_module) (contents_into z tweets second 2 1)) 0) wired
    (sound.one_step tt second (run_of second second_run) 2 0 1 (Module commit_module) refl refl refl (omega arith))

-- a forget changes none of them
pub commits_restarted : contents w tweets first 3 1 ≡ contents w tweets third 3 0
commits_restarted =
    let sound = strong_law v labels valid are_labels tweets 3 is_data holds (omega arith) (bodied 3 (omega arith)) in
    let before : IsCompleted (wiring_of v) tweets first = completed_run (wiring_of v) tweets first (run_of first first_run) in
    subst (λ z. contents z tweets first 3 1 ≡ contents z tweets third 3 0) wired (sound.schedules tt first third before (subst (λ z. IsCompleted z tweets third) (sym wired) third_run) 1 0 (omega arith) (omega arith))

-- and the seals of the words tell the truth
pub words_honest : IsHonest (1 ∷ []) (emitted_list w tweets second 1 0)
words_honest =
    let run = run_of second second_run in
    subst (λ z. IsHonest (1 ∷ []) (emitted_list z tweets second 1 0)) wired (honest_law v tweets (map event run.events) second 1 0 (1 ∷ []) valid is_data holds run.legal (omega arith) (omega arith) places)
