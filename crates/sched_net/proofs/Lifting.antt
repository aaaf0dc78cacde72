-- What an instance emits, takes or forgets lifts to the steps for which the seats stand, and to the lists and tables that show them.
use Rattle.std.proofs.Common.{◌≡◌, ◌<◌, ◌==◌, ◌&&◌, ℕ, Bool, true, false, Option, None, Some, List, [], ◌∷◌, ◌++◌, length, set, get_or, refl, ap, ◌∙◌, sym, subst, inl, inr, arith}
use Rattle.std.specs.Prelude.{Ok, if◌then◌else◌}
use Rattle.std.specs.Option.{option_map_or}
use Rattle.std.proofs.lemmas.Bool.{cases_Bool, eq-eqb, and_from}
use Rattle.std.proofs.lemmas.List.{length-set, get_or-set_same, get_or-set_other}
use Rattle.blz_value.specs.Members.{Has}
use Rattle.blz_value.proofs.Membership.{Has-map, Has-from_map, Has-filter}
use Rattle.bloom_forms.specs.Step.{Sets}
use Rattle.topo_forms.specs.Data.{Data}
use Rattle.topo_forms.specs.Messages.{Message}
use Rattle.topo_forms.specs.Valid.{IsValid}
use Rattle.topo_forms.specs.View.{View, End, origin_of, comes_from, replicas_of, stream_replicas, senders_of, stream_numbers, streams_from, is_order_mode}
use Rattle.messages.specs.Messages.{Batch, Entry}
use Rattle.inbox.specs.Emission.{list_of}
use Rattle.inbox.specs.Lives.{hear_batch, take_entry, forget_all}
use Rattle.inbox.specs.Wiring.{instance_at, is_there, wiring_of}
use Rattle.inbox.specs.Executions.{with_lives, is_hearing, after_step}
use Rattle.inbox.specs.Standing.{Seat, Seats, StandsFor}
use Rattle.inbox.specs.Events.{Part, Step}
use Rattle.inbox.proofs.Executions.Lengthening.{same_numbers}
use Rattle.inbox.proofs.Executions.Standing.{OtherSeatsStay, seat_hears, seat_takes, seat_forgets, stands_hearing, stands_taking, stands_forgetting}
use Rattle.messages.specs.Lists.{list_at}
use Rattle.inbox.specs.Outlets.{ShowsOutlets, OthersStay, output_number, outlet_for, outlets_for}
use Rattle.inbox.specs.Places.{instance_place, list_place}
use Rattle.sched_net.specs.Seated.{with_seat}
use Rattle.sched_net.specs.Shown.{ShowsSeats}
use Rattle.inbox.specs.declared.outlets.Outlet.{Outlet}
use Rattle.sched_net.proofs.OwnOutlets.{ComesOf, from_component}
use Rattle.inbox.proofs.PlacesLemmas.{range_has, one_place, place-before}
use Rattle.sched_net.proofs.Showing.{is_there-true}

-- ---- one seat

pub same_seat : (c r : ℕ) (seat : Seat) (net : Seats) → (with_seat c r seat net).seats c r ≡ seat
same_seat c r seat net = ap (λ b. if b then seat else net.seats c r) (and_from (c == c) (r == r) (eq-eqb c c refl) (eq-eqb r r refl))

pub other_seats : (c r : ℕ) (seat : Seat) (net : Seats) → OtherSeatsStay c r net (with_seat c r seat net)
other_seats c r seat net = record { others = λ m n off. ap (λ b. if b then seat else net.seats m n) off; logs = λ m. refl }

-- ---- what shows it

module _ (v : View) (given : Data) (seats : Seats) (tables : List Sets) (lists : List (List Message)) (valid : IsValid v) (shows : ShowsSeats v given seats tables lists) (c r : ℕ) (there : c < length v.components) (within : r < replicas_of v c) (seat : Seat) (next : Sets) (after : List (List Message)) (stay : OthersStay (outlets_for v c r) lists after) (own : ShowsOutlets (outlets_for v c r) after seat.kept) (tables_next : next ≡ seat.kept.tables) where
  in_range : instance_place v c r < length tables
  in_range = subst (λ n. instance_place v c r < n) (sym shows.shells) (place-before (replicas_of v) c r (length v.components) within there)

  seat_at : (m n : ℕ) (b : Bool) → (m == c && n == r) ≡ b → (with_seat c r seat seats).seats m n ≡ (if b then seat else seats.seats m n)
  seat_at m n b is = ap (λ t. if t then seat else seats.seats m n) is

  tables-after : (m n : ℕ) → m < length v.components → n < replicas_of v m → get_or (set tables (instance_place v c r) next) (instance_place v m n) [] ≡ ((with_seat c r seat seats).seats m n).kept.tables
  tables-after m n here inside = elim (cases_Bool (m == c && n == r)) [
    | inl is ↦
        let same = same_numbers m n c r is in
        ap (λ k. get_or (set tables (instance_place v c r) next) (instance_place v k n) []) same.0
        ∙ ap (λ k. get_or (set tables (instance_place v c r) next) (instance_place v c k) []) same.1
        ∙ get_or-set_same tables (instance_place v c r) next [] in_range
        ∙ tables_next
        ∙ ap (λ s. s.kept.tables) (sym (seat_at m n true is))
    | inr off ↦
        get_or-set_other tables (instance_place v c r) (instance_place v m n) next []
        (λ same.
        let numbers = one_place (replicas_of v) m n c r inside within same in
        differ off (and_from (m == c) (n == r) (eq-eqb m c numbers.0) (eq-eqb n r numbers.1)))
        ∙ shows.tables_are m n here inside
        ∙ ap (λ s. s.kept.tables) (sym (seat_at m n false off))
  ]
    where
      differ : {b : Bool} → b ≡ false → b ≡ true → ⊥
      differ {b} e f = let no : false ≡ true = sym e ∙ f in cc

  -- a list that isn't that of an outlet
  not_own : (s : ℕ) → ((u : ℕ) → ComesOf v c u → list_place v u r ≡ s → ⊥) → list_at after s ≡ list_at lists s
  not_own s off = stay.others s (λ o h.
      let m = Has-from_map (outlet_for v r) o (streams_from v c) h in
      λ same. off m.0 (from_component v c m.0 m.1) (ap (λ (p : Outlet). p.place) m.2 ∙ same))

  sends : (u : ℕ) → ComesOf v c u → r < stream_replicas v u
  sends u comes = subst (λ n. r < n) (sym (ap (senders_of v) comes.origin)) within

  outputs-after : (s m o n : ℕ) → s < length v.streams → origin_of v s ≡ Some (m, o) → n < replicas_of v m → list_at after (list_place v s n) ≡ list_of ((with_seat c r seat seats).seats m n).kept o
  outputs-after s m o n here comes inside = elim (cases_Bool (m == c && n == r)) [
    | inl is ↦
        let same = same_numbers m n c r is in
        let origin : origin_of v s ≡ Some (c, o) = comes ∙ ap (λ k. Some (k, o)) same.0 in
        let from : comes_from v c s ≡ true = ap (λ t. option_map_or (λ (output : End). output.0 == c) t false) origin ∙ eq-eqb c c refl in
        let member : Has s (streams_from v c) = Has-filter (comes_from v c) s (stream_numbers v) (range_has 0 (length v.streams) s (omega arith) (omega (arith, here))) from in
        let shown = own (outlet_for v r s) (Has-map (outlet_for v r) s (streams_from v c) member) in
        ap (λ k. list_at after (list_place v s k)) same.1
        ∙ shown.list
        ∙ ap (λ t. list_of seat.kept (output_number t)) origin
        ∙ ap (λ t. list_of t.kept o) (sym (seat_at m n true is))
    | inr off ↦
        not_own (list_place v s n) (λ u from same.
        let sending : n < stream_replicas v s = subst (λ k. n < k) (sym (ap (senders_of v) comes)) inside in
        let numbers = one_place (stream_replicas v) u r s n (sends u from) sending same in
        let one : Some (c, from.output) ≡ Some (m, o) = sym from.origin ∙ ap (origin_of v) numbers.0 ∙ comes in
        let component : c ≡ m = ap (λ (t : Option End). option_map_or (λ (end : End). end.0) t 0) one in
        differ off (and_from (m == c) (n == r) (eq-eqb m c (sym component)) (eq-eqb n r (sym numbers.1))))
        ∙ shows.outputs s m o n here comes inside
        ∙ ap (λ t. list_of t.kept o) (sym (seat_at m n false off))
  ]
    where
      differ : {b : Bool} → b ≡ false → b ≡ true → ⊥
      differ {b} e f = let no : false ≡ true = sym e ∙ f in cc

  pub shows_after : ShowsSeats v given (with_seat c r seat seats) (set tables (instance_place v c r) next) after
  shows_after = record {
    shells = length-set tables (instance_place v c r) next ∙ shows.shells;
    count = stay.as_many ∙ shows.count;
    tables_are = tables-after;
    outputs = outputs-after;
    sources = λ s here none.
        not_own (list_place v s 0) (λ u from same.
        let one : stream_replicas v s ≡ 1 = ap (senders_of v) none in
        let numbers = one_place (stream_replicas v) u r s 0 (sends u from) (omega (arith, one)) same in
        let no : Some (c, from.output) ≡ None = sym from.origin ∙ ap (origin_of v) numbers.0 ∙ none in
        cc)
        ∙ shows.sources s here none;
  }

-- ---- one step more

-- the seats stand for one step more
pub record Lifts (v : View) (given : Data) (steps : List Step) (net : Seats) (tables : List Sets) (lists : List (List Message)) : Type 0 where
  pub stands : StandsFor (wiring_of v) given steps net
  pub shows : ShowsSeats v given net tables lists

module _ (v : View) (given : Data) (steps : List Step) (step : Step) (seats : Seats) (tables : List Sets) (lists : List (List Message)) (valid : IsValid v) (stands : StandsFor (wiring_of v) given steps seats) (shows : ShowsSeats v given seats tables lists) (c r : ℕ) (there : c < length v.components) (within : r < replicas_of v c) (next : Sets) (after : List (List Message)) (stay : OthersStay (outlets_for v c r) lists after) where
  is_here : is_there (wiring_of v) c r ≡ true
  is_here = is_there-true v c r there within

  -- the instance heard a batch
  pub hearing_lifts : (parts : List Part) (pairs : Batch) → after_step (wiring_of v) given step stands.execution ≡ Ok (with_lives c r (hear_batch pairs) stands.execution) → is_hearing (wiring_of v) c r parts ≡ true
      → ShowsOutlets (outlets_for v c r) after (seat_hears (instance_at (wiring_of v) c r) pairs (seats.seats c r)).kept → next ≡ (seat_hears (instance_at (wiring_of v) c r) pairs (seats.seats c r)).kept.tables
      → Lifts v given (steps ++ step ∷ []) (with_seat c r (seat_hears (instance_at (wiring_of v) c r) pairs (seats.seats c r)) seats) (set tables (instance_place v c r) next) after
  hearing_lifts parts pairs at hears own tables_next =
      let seat : Seat = seat_hears (instance_at (wiring_of v) c r) pairs (seats.seats c r) in
      record {
        stands = stands_hearing (wiring_of v) given steps step seats (with_seat c r seat seats) stands c r parts pairs at hears is_here (other_seats c r seat seats) (same_seat c r seat seats);
        shows = shows_after v given seats tables lists valid shows c r there within seat next after stay own tables_next;
      }

  -- the replica took an entry
  pub taking_lifts : (entry : Entry) → after_step (wiring_of v) given step stands.execution ≡ Ok (with_lives c r take_entry stands.execution) → is_order_mode (instance_at (wiring_of v) c r).mode ≡ true
      → (seats.seats c r).taken < length (seats.logs c) → get_or (seats.logs c) (seats.seats c r).taken entry ≡ entry
      → ShowsOutlets (outlets_for v c r) after (seat_takes (instance_at (wiring_of v) c r) entry (seats.seats c r)).kept → next ≡ (seat_takes (instance_at (wiring_of v) c r) entry (seats.seats c r)).kept.tables
      → Lifts v given (steps ++ step ∷ []) (with_seat c r (seat_takes (instance_at (wiring_of v) c r) entry (seats.seats c r)) seats) (set tables (instance_place v c r) next) after
  taking_lifts entry at order less is own tables_next =
      let seat : Seat = seat_takes (instance_at (wiring_of v) c r) entry (seats.seats c r) in
      record {
        stands = stands_taking (wiring_of v) given steps step seats (with_seat c r seat seats) stands c r entry at is_here order less is (other_seats c r seat seats) (same_seat c r seat seats);
        shows = shows_after v given seats tables lists valid shows c r there within seat next after stay own tables_next;
      }

  -- the instance forgot
  pub forgetting_lifts : after_step (wiring_of v) given step stands.execution ≡ Ok (with_lives c r forget_all stands.execution)
      → ShowsOutlets (outlets_for v c r) after (seat_forgets (instance_at (wiring_of v) c r) (seats.seats c r)).kept → next ≡ (seat_forgets (instance_at (wiring_of v) c r) (seats.seats c r)).kept.tables
      → Lifts v given (steps ++ step ∷ []) (with_seat c r (seat_forgets (instance_at (wiring_of v) c r) (seats.seats c r)) seats) (set tables (instance_place v c r) next) after
  forgetting_lifts at own tables_next =
      let seat : Seat = seat_forgets (instance_at (wiring_of v) c r) (seats.seats c r) in
      record {
        stands = stands_forgetting (wiring_of v) given steps step seats (with_seat c r seat seats) stands c r at is_here (other_seats c r seat seats) (same_seat c r seat seats);
        shows = shows_after v given seats tables lists valid shows c r there within seat next after stay own tables_next;
      }
