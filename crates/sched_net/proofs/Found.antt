-- The books of a net have the emitted list of each sending replica and the books of each instance at their places.
use Rattle.std.proofs.Common.{◌≡◌, ◌<◌, ◌≤◌, ◌+◌, ◌-◌, ◌&&◌, ℕ, zero, suc, None, List, [], length, slice_get, ap, ◌∙◌, sym, inl, inr, arith, nat_lt, unwrap_or}
use Rattle.std.specs.Prelude.{if◌then◌else◌}
use Rattle.std.proofs.lemmas.Bool.{cases_lt, and_from}
use Rattle.std.proofs.lemmas.List.{get_or_past}
use Rattle.blz_value.proofs.Lists.{lt-is, lt-not}
use Rattle.bloom_forms.specs.Query.{Name}
use Rattle.topo_forms.specs.View.{View, Component, Port, no_component, number_named, replicas_of, stream_replicas}
use Rattle.messages.specs.Lists.{list_at}
use Rattle.sched_net.specs.Net.{BooksRun}
use Rattle.sched_net.specs.Numbered.{port_number}
use Rattle.inbox.specs.Places.{places_before, instance_place, list_place}
use Rattle.sched_net.specs.declared.books.Books.{Books}
use Rattle.sched_net.specs.Seen.{list_seen, seat_seen}
use Rattle.messages.proofs.ListsLemmas.{length-read_lists}
use Rattle.inbox.proofs.PlacesLemmas.{before-more, place-before}

-- ---- tests of numbers

-- ---- lists and seats that are there, or aren't

module _ {X : Type 0} (v : View) (lists : List (List X)) (s r : ℕ) where
  pub list_there : s < length v.streams → r < stream_replicas v s → list_seen v lists s r ≡ list_at lists (list_place v s r)
  list_there there sends = ap (λ t. if t then list_at lists (list_place v s r) else []) (and_from (nat_lt s (length v.streams)) (nat_lt r (stream_replicas v s)) (lt-is s (length v.streams) there) (lt-is r (stream_replicas v s) sends))

  pub no_stream_there : length v.streams ≤ s → list_seen v lists s r ≡ []
  no_stream_there past = ap (λ t. if t && nat_lt r (stream_replicas v s) then list_at lists (list_place v s r) else []) (lt-not s (length v.streams) past)

module _ {X : Type 0} (v : View) (seats : List X) (c r : ℕ) where
  pub seat_there : r < replicas_of v c → seat_seen v seats c r ≡ slice_get seats (instance_place v c r)
  seat_there within = ap (λ t. if t then slice_get seats (instance_place v c r) else None) (lt-is r (replicas_of v c) within)

  pub no_seat_there : replicas_of v c ≤ r → seat_seen v seats c r ≡ None
  no_seat_there past = ap (λ t. if t then slice_get seats (instance_place v c r) else None) (lt-not r (replicas_of v c) past)

-- a component that isn't there has no port, and the number past the end of none is 0
pub no_port_there : (v : View) (c : ℕ) (name : Name) → length v.components ≤ c → 0 ≡ port_number v c name
no_port_there v c name past = sym (ap (λ (x : Component). unwrap_or (number_named (λ (p : Port). p.name) x.ports name) (length x.ports)) (get_or_past v.components c no_component past))

-- ---- places

module _ (v : View) (b : Books) (run : BooksRun v b) where
  pub list_within : (s r : ℕ) → s < length v.streams → r < stream_replicas v s → list_place v s r < length b.lists.lists
  list_within s r there sends = omega (arith, place-before (stream_replicas v) s r (length v.streams) sends there, run.stand.shows.count, length-read_lists b.lists)

  pub instance_within : (c r : ℕ) → c < length v.components → r < replicas_of v c → instance_place v c r < length b.seats.items
  instance_within c r there within = omega (arith, place-before (replicas_of v) c r (length v.components) within there, run.stand.instances.count)

-- each place below the last is that of a number
pub number_of_place : (size : ℕ → ℕ) (n place : ℕ) → place < places_before size n → (k : ℕ) × (j : ℕ) × (k < n) × (j < size k) × (places_before size k + j ≡ place)
number_of_place size zero place less = absurd (omega (arith, less))
number_of_place size (suc n) place less = elim (cases_lt place (places_before size n)) [
  | inl before ↦
      let m = number_of_place size n place before in
      (m.0, m.1, omega (arith, m.2), m.3, m.4)
  | inr after ↦
      let next : n + 1 ≡ suc n = omega arith in
      let more : places_before size (suc n) ≡ places_before size n + size n = ap (places_before size) (sym next) ∙ before-more size n in
      (n, place - places_before size n, omega arith, omega (arith, less, more, after), omega (arith, after))
]
