-- The books of a net that made no step stand, and so does the net with its shells.
use Rattle.std.proofs.Common.{◌≡◌, ◌<◌, ◌≤◌, ◌++◌, ℕ, zero, suc, Option, None, Some, Bool, false, List, [], ◌∷◌, length, map, replicate, get_or, refl, ap, ◌∙◌, sym, subst, inl, inr, arith}
use Rattle.std.specs.List.Sorted.{IsPermutation}
use Rattle.std.proofs.lemmas.Bool.{cases_lt}
use Rattle.std.proofs.lemmas.List.{get_or-map, length-map, map-append, length-replicate, get_or-replicate}
use Rattle.std.proofs.lemmas.List.Sorted.{IsPermutation-map}
use Rattle.blz_value.specs.Members.{Has}
use Rattle.blz_value.specs.Record.{Row}
use Rattle.blz_value.proofs.Membership.{Has-get_or}
use Rattle.sched_net.proofs.ForgettingLemmas.{first_is}
use Rattle.bloom_forms.specs.declared.program.Program.{Program}
use Rattle.bloom_forms.specs.Step.{Sets}
use Rattle.bloom_eval.specs.Step.{nothing_kept}
use Rattle.topo_forms.specs.Data.{Data, IsData}
use Rattle.topo_forms.specs.Messages.{Message}
use Rattle.topo_forms.specs.Valid.{IsValid}
use Rattle.topo_forms.specs.View.{View, End, senders_of, origin_of, program_of, replicas_of, source_count}
use Rattle.inbox.specs.Emission.{first_tables}
use Rattle.inbox.specs.Instances.{Instance}
use Rattle.blz_pool.specs.Entries.{EntryId, entries_with_ids}
use Rattle.messages.specs.Log.{AreGiven}
use Rattle.inbox.specs.Wiring.{wiring_of, instance_at}
use Rattle.inbox.proofs.Executions.Standing.{first_seats, stands_first}
use Rattle.inbox.proofs.WiringLemmas.{instance-wired}
use Rattle.sched_net.specs.Bench.{instance_components, first_without_body, fault_of_bodies, taken_by, left_by}
use Rattle.messages.specs.Lists.{IsExact, read_lists, list_at}
use Rattle.sched_net.specs.Net.{ShowLogs, Stands}
use Rattle.inbox.specs.Places.{ArePlaces, instance_place, instance_count}
use Rattle.sched_net.specs.Shown.{ShowsSeats}
use Rattle.sched_net.specs.Code.First.{AreFirst, AllHaveBodies, StandFirst}
use Rattle.inbox.specs.Sources.{SourcesEmitted}
use Rattle.sched_net.specs.declared.books.Books.{Books}
use Rattle.inbox.proofs.PlacesLemmas.{place-before}
use Rattle.sched_net.proofs.ShellsLemmas.{component_at_place, many_components}
use Rattle.sched_net.proofs.TakingLemmas.{all_have_bodies, all_taken}

-- ---- tables

-- the tables of shells that were just loaded
abbrev pub loaded_tables : View → List Sets
loaded_tables v = map (λ c. nothing_kept (program_of v c)) (instance_components v)

inside_components : (v : View) (c r : ℕ) → c < length v.components → r < replicas_of v c → instance_place v c r < length (instance_components v)
inside_components v c r there within = subst (λ n. instance_place v c r < n) (sym (many_components v)) (place-before (replicas_of v) c r (length v.components) within there)

tables_at : (v : View) (c r : ℕ) → c < length v.components → r < replicas_of v c → get_or (loaded_tables v) (instance_place v c r) [] ≡ first_tables (instance_at (wiring_of v) c r).program
tables_at v c r there within =
    get_or-map (λ n. nothing_kept (program_of v n)) (instance_components v) (instance_place v c r) 0 [] (inside_components v c r there within)
    ∙ ap (λ n. nothing_kept (program_of v n)) (component_at_place v c r 0 there within)
    ∙ first_is (program_of v c)
    ∙ ap (λ (i : Instance). first_tables i.program) (sym (instance-wired v c r there within))

-- ---- lists

abbrev no_list : {X : Type 0} → X → List Message
no_list x = []

none_at : {X : Type 0} (xs : List X) (n : ℕ) → get_or (map (no_list {X = X}) xs) n [] ≡ []
none_at [] n = refl
none_at (x ∷ xs) zero = refl
none_at (x ∷ xs) (suc n) = none_at xs n

no_origin : (origin : End) → None ≡ Some origin → ⊥
no_origin origin e = cc

module _ (v : View) (valid : IsValid v) (given : Data) (lists : List (List Message)) (sources : SourcesEmitted v given (source_count v) lists) where
  no_source : (s c output : ℕ) → s < length v.streams → origin_of v s ≡ Some (c, output) → source_count v ≤ s
  no_source s c output there from = elim (cases_lt s (source_count v)) [
    | inl below ↦ absurd (no_origin (c, output) (sym ((valid.numbered.sources s there).1 below) ∙ from))
    | inr past ↦ omega (arith, past)
  ]

  pub shows_first : ShowsSeats v given (first_seats (wiring_of v)) (loaded_tables v) lists
  shows_first = record {
    shells = length-map (instance_components v) (λ c. nothing_kept (program_of v c)) ∙ many_components v;
    count = sources.count;
    tables_are = tables_at v;
    outputs = λ s c output r there from within.
        sources.others s r (no_source s c output there from) there (subst (λ n. r < n) (sym (ap (senders_of v) from)) within)
        ∙ sym (none_at (instance_at (wiring_of v) c r).outputs output);
    sources = λ s there none. sources.emitted s ((valid.numbered.sources s there).0 none);
  }

-- ---- logs

no_logs : (v : View) (records : List Row) (logs : List (List EntryId)) (count : ℕ) → count ≡ length v.components → logs ≡ replicate count [] → ShowLogs v records (first_seats (wiring_of v)) logs
no_logs v records logs count is empty = record {
  count = ap (λ (l : List (List EntryId)). length l) empty ∙ length-replicate {A = List EntryId} count [] ∙ is;
  each = λ c there. ap (entries_with_ids records) (none c there);
  given = λ c there. subst (AreGiven records) (sym (none c there)) (λ entry h. absurd h);
}
  where
    none : (c : ℕ) → c < length v.components → list_at logs c ≡ []
    none c there = ap (λ (l : List (List EntryId)). list_at l c) empty ∙ get_or-replicate count c [] [] (subst (λ n. c < n) (sym is) there)

-- ---- all books

pub stand_first : (v : View) (given : Data) (b : Books) (count : ℕ) → IsValid v → IsData v given → ArePlaces v b.places → SourcesEmitted v given (source_count v) (read_lists b.lists) → IsExact b.lists
    → count ≡ length v.components → b.logs.items ≡ replicate count [] → length b.seats.items ≡ instance_count v → AreFirst v b.seats.items → b.ended ≡ false → StandFirst v given b
stand_first v given b count valid fits places sources exact is logs many first runs = record {
  stand = λ bodies. record {
    fits = fits;
    bodies = bodies;
    seats = first_seats (wiring_of v);
    tables = loaded_tables v;
    stands = stands_first (wiring_of v) given;
    shows = shows_first v valid given (read_lists b.lists) sources;
    exact = exact;
    places = places;
    instances = record { count = many; each = λ c r seat there within at. first.each c r seat there within at b.lists };
    logs = no_logs v b.lists.records b.logs.items count is logs;
    runs = runs;
  };
  tables = λ bodies. refl;
}

-- ---- with shells

no_fault : (bodiless short : Option ℕ) → fault_of_bodies bodiless short ≡ None → bodiless ≡ None
no_fault None short e = refl
no_fault (Some c) short e = cc

pub bodies_there : (v : View) (short : Option ℕ) → IsValid v → fault_of_bodies (first_without_body v) short ≡ None → AllHaveBodies v
bodies_there v short valid none c there =
    let one : 0 < replicas_of v c = omega (arith, (valid.components c there).some_replica) in
    all_have_bodies v (no_fault (first_without_body v) short none) c
    (subst (λ n. Has n (instance_components v)) (component_at_place v c 0 0 there one) (Has-get_or (instance_components v) (instance_place v c 0) 0 (inside_components v c 0 there one)))

pub net_stands : (v : View) (given : Data) (b : Books) (loaded : List (Option Program)) (tables : List Sets) → StandFirst v given b → AllHaveBodies v
    → loaded ≡ map (program_of v) (instance_components v) → tables ≡ loaded_tables v → Stands v given [] loaded tables b
net_stands v given b loaded tables first bodies programs are = record {
  books = first.stand bodies;
  tables_are = are ∙ sym (first.tables bodies);
  programs = programs;
}

-- shells are neither made nor lost
pub kinds_stay : {X K : Type 0} (kind : X → K) (fit : ℕ → X → Bool) (cs : List ℕ) (xs bench shells : List X) → bench ≡ left_by fit cs xs → map kind shells ≡ map kind (taken_by fit cs xs)
    → IsPermutation (map kind xs) (map kind bench ++ map kind shells)
kinds_stay kind fit cs xs bench shells left taken =
    subst (λ l. IsPermutation (map kind xs) l)
    (map-append kind (left_by fit cs xs) (taken_by fit cs xs)
    ∙ ap (λ l. map kind (left_by fit cs xs) ++ l) (sym taken)
    ∙ ap (λ l. map kind l ++ map kind shells) (sym left))
    (IsPermutation-map kind xs (left_by fit cs xs ++ taken_by fit cs xs) (all_taken fit cs xs))
