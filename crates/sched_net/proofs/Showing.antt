-- Where lists and tables show the seats that stand for an execution, its emitted lists, their messages and the course of each instance are read off them.
use Rattle.std.proofs.Common.{◌≡◌, ◌<◌, ◌≤◌, ◌+◌, ◌-◌, ℕ, suc, true, Option, None, Some, List, [], ◌∷◌, length, get_or, refl, ap, ◌∙◌, sym, subst, inl, inr, arith, nat_lt}
use Rattle.std.specs.List.{sum_by, fold, enumerate_from, range_with_len}
use Rattle.std.proofs.lemmas.Bool.Decides.{nat_tests}
use Rattle.std.proofs.lemmas.List.{length-map}
use Rattle.blz_value.specs.Members.{Has}
use Rattle.blz_value.proofs.Membership.{Has-from_map}
use Rattle.bloom_forms.specs.declared.program.Program.{Program}
use Rattle.bloom_forms.specs.Step.{Sets}
use Rattle.topo_forms.specs.Data.{Data}
use Rattle.topo_forms.specs.Messages.{Message}
use Rattle.blz_value.specs.NumberSets.{below}
use Rattle.blz_value.proofs.Ranges.{Has-below}
use Rattle.topo_forms.specs.Valid.{IsValid}
use Rattle.topo_forms.specs.View.{View, End, no_stream, stream_at, component_at, origin_of, program_of, replicas_of, senders_of, stream_replicas, streams_from}
use Rattle.messages.specs.Messages.{Entry}
use Rattle.inbox.specs.Instances.{Instance}
use Rattle.inbox.specs.Timesteps.{SetOff}
use Rattle.inbox.specs.Emission.{Kept, list_of, emit, begin_life, nothing_emitted}
use Rattle.inbox.specs.Lives.{Life, Lives, all_lives, life_sets_off, after_life, kept_after}
use Rattle.inbox.specs.Wiring.{instance_at, instance_for, is_there, wiring_of}
use Rattle.inbox.specs.Executions.{Execution, emitted_list}
use Rattle.inbox.specs.Standing.{Seats, SeatsStandFor}
use Rattle.inbox.proofs.Executions.Standing.{stands_emitted}
use Rattle.inbox.proofs.Lists.Growing.{emit-continues}
use Rattle.inbox.proofs.Lists.Origins.{source_list}
use Rattle.inbox.proofs.WiringLemmas.{instances-wired, instance-wired, there-wired, stream-wired, length-below}
use Rattle.inbox.specs.Limits.{senders_in, messages_of, all_messages, messages_in, outputs_from}
use Rattle.messages.specs.Lists.{list_at, total}
use Rattle.inbox.specs.Outlets.{ShowsOutlets, own_messages, output_number, outlet_for, outlets_for}
use Rattle.inbox.specs.Places.{places_before, instance_place, list_place}
use Rattle.sched_net.specs.Shown.{ShowsSeats}
use Rattle.inbox.specs.Running.{StandingIsEmitted, IsCourseOf, HaveOwnKeys}
use Rattle.inbox.specs.declared.outlets.Outlet.{Outlet}
use Rattle.inbox.proofs.Emitting.{proper_stands, standing_is_emitted}
use Rattle.inbox.proofs.OutletsLemmas.{own-shown, own_at_most}
use Rattle.sched_net.proofs.OwnOutlets.{from_component, outlets_apart, outlets_there, outlets_outputs, outlets_keys, outlets_are}
use Rattle.sched_net.proofs.Totals.{all_of_all}

-- ---- emitted lists

pub is_there-true : (v : View) (c r : ℕ) → c < length v.components → r < replicas_of v c → is_there (wiring_of v) c r ≡ true
is_there-true v c r there within = there-wired v c r there ∙ (let e : nat_lt r (replicas_of v c) ≡ true = grind (arith, nat_tests) in e)

module _ (v : View) (given : Data) (x : Execution) (seats : Seats) (tables : List Sets) (lists : List (List Message)) (valid : IsValid v) (stands : SeatsStandFor (wiring_of v) x seats) (shows : ShowsSeats v given seats tables lists) where
  -- each emitted list of the execution stands at its place
  pub emitted_shown : (s r : ℕ) → s < length v.streams → r < stream_replicas v s → list_at lists (list_place v s r) ≡ emitted_list (wiring_of v) given x s r
  emitted_shown s r there within = by_origin (origin_of v s) refl within
    where
      by_origin : (o : Option End) → origin_of v s ≡ o → r < stream_replicas v s → list_at lists (list_place v s r) ≡ emitted_list (wiring_of v) given x s r
      by_origin None is inside =
          let one : stream_replicas v s ≡ 1 = ap (senders_of v) is in
          let first : r ≡ 0 = omega (arith, one, inside) in
          ap (λ n. list_at lists (list_place v s n)) first ∙ shows.sources s there is ∙ sym (source_list v given x s r there is)
      by_origin (Some spot) is inside =
          let many : stream_replicas v s ≡ replicas_of v spot.0 = ap (senders_of v) is in
          let of_component : r < replicas_of v spot.0 = omega (arith, many, inside) in
          let component : spot.0 < length v.components = (valid.numbered.origins s spot there is).0 in
          shows.outputs s spot.0 spot.1 r there is of_component
          ∙ sym (stands_emitted (wiring_of v) given x seats s spot.0 spot.1 r (stream_at v s) stands (stream-wired v s there) is (is_there-true v spot.0 r component of_component))

  -- ---- all messages

  senders-are : (s : ℕ) → s < length v.streams → senders_in (wiring_of v) (origin_of v s) ≡ stream_replicas v s
  senders-are s there = by_origin (origin_of v s) refl
    where
      by_origin : (o : Option End) → origin_of v s ≡ o → senders_in (wiring_of v) (origin_of v s) ≡ stream_replicas v s
      by_origin None is = ap (senders_in (wiring_of v)) is ∙ sym (ap (senders_of v) is)
      by_origin (Some spot) is =
          let component : spot.0 < length v.components = (valid.numbered.origins s spot there is).0 in
          ap (senders_in (wiring_of v)) is
          ∙ ap (λ (l : List Instance). length l) (instances-wired v spot.0 component) ∙ length-below (instance_for v spot.0) (replicas_of v spot.0)
          ∙ sym (ap (senders_of v) is)

-- sums that are the same over the elements of a list
pub sums_same : {X : Type 0} (f g : X → ℕ) (n : ℕ) (xs : List X) → ((x : X) → Has x xs → f x ≡ g x) → fold (λ a x. a + f x) n xs ≡ fold (λ a x. a + g x) n xs
sums_same f g n [] same = refl
sums_same f g n (x ∷ xs) same = ap (λ k. fold (λ a y. a + f y) (n + k) xs) (same x (inl refl)) ∙ sums_same f g (n + g x) xs (λ y h. same y (inr h))

-- a sum over numbered elements is one over their numbers
pub sums_numbered : {X : Type 0} (f : ℕ → X → ℕ) (d : X) (xs ys : List X) (a n : ℕ) → ((k : ℕ) → k < length xs → get_or ys (a + k) d ≡ get_or xs k d)
    → fold (λ s (place : ℕ × X). s + f place.0 place.1) n (enumerate_from a xs) ≡ fold (λ s k. s + f k (get_or ys k d)) n (range_with_len a (length xs))
sums_numbered f d [] ys a n same = refl
sums_numbered f d (x ∷ xs) ys a n same =
    let first : x ≡ get_or ys a d = sym (ap (λ k. get_or ys k d) (let e : a ≡ a + 0 = omega arith in e) ∙ same 0 (omega arith)) in
    sums_numbered f d xs ys (a + 1) (n + f a x) (λ k less. ap (λ j. get_or ys j d) (let e : a + 1 + k ≡ a + suc k = omega arith in e) ∙ same (suc k) (omega (arith, less)))
    ∙ ap (λ z. fold (λ s k. s + f k (get_or ys k d)) (n + f a z) (range_with_len (a + 1) (length xs))) first

all_by_number : (v : View) (given : Data) (x : Execution) → all_messages (wiring_of v) given x ≡ sum_by (λ s. messages_of (wiring_of v) given x s (stream_at v s)) (below (length v.streams))
unfolding wiring_of
all_by_number v given x = sums_numbered (messages_of (wiring_of v) given x) no_stream v.streams v.streams 0 0 (λ k less. ap (λ n. get_or v.streams n no_stream) (let e : 0 + k ≡ k = omega arith in e))

module _ (v : View) (given : Data) (x : Execution) (seats : Seats) (tables : List Sets) (lists : List (List Message)) (valid : IsValid v) (stands : SeatsStandFor (wiring_of v) x seats) (shows : ShowsSeats v given seats tables lists) where
  -- the messages of the lists are those of the execution
  pub all_shown : all_messages (wiring_of v) given x ≡ total lists
  all_shown =
      all_by_number v given x
      ∙ sums_same (λ s. messages_of (wiring_of v) given x s (stream_at v s)) (λ s. sum_by (λ r. length (list_at lists (places_before (stream_replicas v) s + r))) (below (stream_replicas v s))) 0 (below (length v.streams)) (λ s h. one s (Has-below (length v.streams) s h))
      ∙ sym (all_of_all (stream_replicas v) lists (length v.streams) shows.count)
    where
      one : (s : ℕ) → s < length v.streams → messages_of (wiring_of v) given x s (stream_at v s) ≡ sum_by (λ r. length (list_at lists (places_before (stream_replicas v) s + r))) (below (stream_replicas v s))
      one s there =
          ap (λ n. sum_by (λ r. length (emitted_list (wiring_of v) given x s r)) (range_with_len 0 n)) (senders-are v given x seats tables lists valid stands shows s there)
          ∙ sums_same (λ r. length (emitted_list (wiring_of v) given x s r)) (λ r. length (list_at lists (places_before (stream_replicas v) s + r))) 0 (below (stream_replicas v s))
          (λ r h. sym (ap (λ (l : List Message). length l) (emitted_shown v given x seats tables lists valid stands shows s r there (Has-below (stream_replicas v s) r h))))

-- ---- the lists of an instance

emits-as_many : (i : Instance) (kept : Kept) (all : List SetOff) → length (fold (emit i) kept all).lists ≡ length kept.lists
emits-as_many i kept [] = refl
emits-as_many i kept (s ∷ all) = emits-as_many i (emit i kept s) all ∙ (emit-continues i kept s).as_many

lives-as_many : (i : Instance) (log : List Entry) (kept : Kept) (lives : List Life) → length (fold (after_life i log) kept lives).lists ≡ length kept.lists
lives-as_many i log kept [] = refl
lives-as_many i log kept (life ∷ lives) = lives-as_many i log (after_life i log kept life) lives ∙ emits-as_many i (begin_life i kept) (life_sets_off i log life)

-- there is one list for each output
pub kept-lists : (i : Instance) (log : List Entry) (lives : Lives) → length (kept_after i log lives).lists ≡ length i.outputs
kept-lists i log lives = lives-as_many i log (nothing_emitted i) (all_lives lives) ∙ length-map i.outputs (λ output. [])

module _ (v : View) (given : Data) (x : Execution) (seats : Seats) (tables : List Sets) (lists : List (List Message)) (valid : IsValid v) (stands : SeatsStandFor (wiring_of v) x seats) (shows : ShowsSeats v given seats tables lists) (c r : ℕ) (there : c < length v.components) (within : r < replicas_of v c) where
  kept-is : (seats.seats c r).kept ≡ kept_after (instance_for v c r) (x.logs c) (x.lives c r)
  kept-is = (stands.seats c r (is_there-true v c r there within)).kept ∙ ap (λ i. kept_after i (x.logs c) (x.lives c r)) (instance-wired v c r there within)

  pub outputs-shown : ShowsOutlets (outlets_for v c r) lists (seats.seats c r).kept
  outputs-shown o h =
      let m = Has-from_map (outlet_for v r) o (streams_from v c) h in
      let comes = from_component v c m.0 m.1 in
      let many : length (seats.seats c r).kept.lists ≡ length (component_at v c).outputs = ap (λ k. length k.lists) kept-is ∙ kept-lists (instance_for v c r) (x.logs c) (x.lives c r) ∙ length-below _ (length (component_at v c).outputs) in
      record {
        place = subst (λ n. o.place < n) (sym shows.count) (outlets_there v c r within o h);
        output = subst (λ n. o.output < n) (sym many) (outlets_outputs v c r valid o h);
        list =
            subst (λ (p : Outlet). list_at lists p.place ≡ list_of (seats.seats c r).kept p.output) m.2
            (shows.outputs m.0 c comes.output r comes.there comes.origin within
            ∙ ap (list_of (seats.seats c r).kept) (sym (ap output_number comes.origin)));
      }

  -- the course of an instance that runs this program, beside all other lists
  pub course_of : (p : Program) → program_of v c ≡ Some p
      → IsCourseOf (instance_at (wiring_of v) c r) (program_of v c) (outlets_for v c r) (all_messages (wiring_of v) given x - messages_in (outputs_from (wiring_of v) c) (seats.seats c r).kept) (get_or tables (instance_place v c r) []) lists (seats.seats c r).kept
  course_of p runs =
      let kept : Kept = (seats.seats c r).kept in
      let outlets : List Outlet = outlets_for v c r in
      let wired = instance-wired v c r there within in
      let own : own_messages outlets lists ≡ messages_in (outputs_from (wiring_of v) c) kept = own-shown outlets lists kept outputs-shown ∙ ap (λ ns. messages_in ns kept) (sym (outlets_are v c r)) in
      let less : own_messages outlets lists ≤ total lists = own_at_most outlets lists (outlets_apart v c r within) (λ o h. (outputs-shown o h).place) in
      let all : all_messages (wiring_of v) given x ≡ total lists = all_shown v given x seats tables lists valid stands shows in
      record {
        program = p;
        runs = subst (λ i. i.program ≡ Some p) (sym wired) runs;
        keys = subst (λ i. HaveOwnKeys i outlets) (sym wired) (outlets_keys v c r valid);
        course = record {
          runs = runs;
          still = proper_stands p ((valid.components c there).runs p runs).proper;
          apart = outlets_apart v c r within;
          tables_are = shows.tables_are c r there within;
          shows = outputs-shown;
          standing = subst (λ k. StandingIsEmitted p k) (sym kept-is) (standing_is_emitted p (instance_for v c r) runs (proper_stands p ((valid.components c there).runs p runs).proper) (x.logs c) (x.lives c r));
          count = omega (arith, own, less, all);
        };
      }
