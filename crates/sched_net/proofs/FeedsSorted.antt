-- The feeds of an instance rise by port, then by stream, then by sender, so a binary search finds the feed of a part.
use Rattle.std.proofs.Common.{◌≡◌, ◌<◌, ◌≤◌, ◌+◌, ◌==◌, ◌&&◌, ℕ, zero, suc, Bool, true, false, cond, Some, None, List, [], ◌∷◌, ◌++◌, length, filter, get_or, nat_lt, refl, ap, ◌∙◌, sym, subst, inl, inr, arith}
use Rattle.std.specs.Prelude.{Result, Ok, Err}
use Rattle.std.specs.Cmp.{Equal-is, IsTotalOrder}
use Rattle.std.specs.FinMap.{nat_cmp-IsAntisymmetric}
use Rattle.std.specs.List.{AllPairs, HoldsAt, flat_map, position, position_or_len, range_with_len}
use Rattle.std.specs.List.Sorted.{IsBinarySearchResult, IsSearchInRange, IsSortedBy}
use Rattle.std.specs.Ordering.{is_eq, is_lt, ordering_then, ordering_reverse, nat_cmp}
use Rattle.std.specs.Result.{result_ok}
use Rattle.std.specs.declared.cmp.Ordering.TheVariants.{Less, Equal, Greater}
use Rattle.std.proofs.lemmas.Bool.{cases_lt, eq-eqb, eqb-true, lt-ltb, le-ltb}
use Rattle.std.proofs.lemmas.Cmp.{nat_cmp_total, tied_itself, alike_right, on_total, then_total}
use Rattle.std.proofs.lemmas.List.Sorted.{searchable_from_sorted}
use Rattle.std.proofs.lemmas.List.Sums.{position_or_len_is}
use Rattle.blz_value.specs.Members.{Has}
use Rattle.blz_value.proofs.Membership.{Has-append_cases, Has-from_filter, Has-from_flat_map, Has-from_map, Has-get_or}
use Rattle.topo_forms.specs.Feeds.{Feed, feeds_from, no_feed}
use Rattle.blz_value.specs.NumberSets.{below}
use Rattle.blz_value.proofs.Booleans.{same_truth}
use Rattle.blz_value.proofs.Lists.{is_eq-then}
use Rattle.topo_forms.specs.View.{View, port_numbers, streams_to, stream_replicas}
use Rattle.inbox.specs.Senders.{is_sender, senders_for}
use Rattle.inbox.specs.Wiring.{feeds_for}
use Rattle.inbox.proofs.SendersLemmas.{feeds_sent}
use Rattle.sched_net.specs.Code.Parts.{feed_cmp, FeedsRise}

-- ---- orders of numbers

is_eq-numbers : (a b : ℕ) → is_eq (nat_cmp a b) ≡ (a == b)
is_eq-numbers a b =
    same_truth (is_eq (nat_cmp a b)) (a == b)
    (λ e. eq-eqb a b (nat_cmp-IsAntisymmetric a b ((Equal-is (nat_cmp a b)).0 e)))
    (λ e. subst (λ n. is_eq (nat_cmp a n) ≡ true) (eqb-true a b e) ((Equal-is (nat_cmp a a)).1 (tied_itself nat_cmp_total a)))

-- ---- lists that rise

-- each element is before those behind it
abbrev Rise : {X : Type 0} → (X → X → Type 0) → List X → Type 0
Rise R [] = Unit {0}
Rise {X} R (x ∷ xs) = ((y : X) → Has y xs → R x y) × Rise R xs

module _ {X : Type 0} (R : X → X → Type 0) where
  pairs_of_rise : (xs : List X) → Rise R xs → AllPairs R xs
  pairs_of_rise [] up i j d less within = absurd (omega (arith, within))
  pairs_of_rise (x ∷ xs) up i zero d less within = absurd (omega (arith, less))
  pairs_of_rise (x ∷ xs) up zero (suc j) d less within = up.0 (get_or xs j d) (Has-get_or xs j d (omega (arith, within)))
  pairs_of_rise (x ∷ xs) up (suc i) (suc j) d less within = pairs_of_rise xs up.1 i j d (omega (arith, less)) (omega (arith, within))

  rise_append : (xs ys : List X) → Rise R xs → Rise R ys → ((x y : X) → Has x xs → Has y ys → R x y) → Rise R (xs ++ ys)
  rise_append [] ys up more across = more
  rise_append (x ∷ xs) ys up more across = (
    λ y h. elim (Has-append_cases y xs ys h) [ inl own ↦ up.0 y own | inr other ↦ across x y (inl refl) other ],
    rise_append xs ys up.1 more (λ p q h k. across p q (inr h) k),
  )

  rise_filter : (p : X → Bool) (xs : List X) → Rise R xs → Rise R (filter p xs)
  rise_filter p [] up = tt
  rise_filter p (x ∷ xs) up = by_test (p x) (rise_filter p xs up.1)
    where
      by_test : (b : Bool) → Rise R (filter p xs) → Rise R (cond b (x ∷ filter p xs) (filter p xs))
      by_test true rest = (λ y h. up.0 y (Has-from_filter p y xs h).0, rest)
      by_test false rest = rest

module _ {A X : Type 0} (S : A → A → Type 0) (R : X → X → Type 0) (f : A → List X) where
  rise_joined : (as_list : List A) → Rise S as_list → ((a : A) → Has a as_list → Rise R (f a)) → ((a b : A) (x y : X) → S a b → Has x (f a) → Has y (f b) → R x y) → Rise R (flat_map f as_list)
  rise_joined [] up each across = tt
  rise_joined (a ∷ rest) up each across =
      rise_append R (f a) (flat_map f rest) (each a (inl refl)) (rise_joined rest up.1 (λ b h. each b (inr h)) across)
      (λ x y h k. let m = Has-from_flat_map f y rest k in across a m.0 x y (up.0 m.0 m.1) h m.2)

abbrev Below : ℕ → ℕ → Type 0
Below m n = m < n

from_range : (n a y : ℕ) → Has y (range_with_len a n) → a ≤ y
from_range zero a y h = absurd h
from_range (suc n) a y (inl same) = omega (arith, same)
from_range (suc n) a y (inr h) = omega (arith, from_range n (a + 1) y h)

range_rises : (n a : ℕ) → Rise Below (range_with_len a n)
range_rises zero a = tt
range_rises (suc n) a = (λ y h. let more : a + 1 ≤ y = from_range n (a + 1) y h in omega (arith, more), range_rises n (a + 1))

-- ---- feeds

abbrev IsBefore : Feed → Feed → Type 0
IsBefore f g = feed_cmp f g ≡ Less

number_less : (m n : ℕ) → m < n → nat_cmp m n ≡ Less
number_less m n less = ap (λ b. cond b Less (cond (m == n) Equal Greater)) (lt-ltb m n less)

number_same : (n : ℕ) → nat_cmp n n ≡ Equal
number_same n = tied_itself nat_cmp_total n

by_sender : (p s i k : ℕ) → i < k → IsBefore (record { port = p; stream = s; sender = i }) (record { port = p; stream = s; sender = k })
by_sender p s i k less =
    ap (λ o. ordering_then (ordering_then o (nat_cmp s s)) (nat_cmp i k)) (number_same p)
    ∙ ap (λ o. ordering_then o (nat_cmp i k)) (number_same s)
    ∙ number_less i k less

by_stream : (f g : Feed) (p s t : ℕ) → f.port ≡ p → g.port ≡ p → f.stream ≡ s → g.stream ≡ t → s < t → IsBefore f g
by_stream f g p s t fp gp fs gt less =
    ap (λ m. ordering_then (ordering_then (nat_cmp m g.port) (nat_cmp f.stream g.stream)) (nat_cmp f.sender g.sender)) fp
    ∙ ap (λ m. ordering_then (ordering_then (nat_cmp p m) (nat_cmp f.stream g.stream)) (nat_cmp f.sender g.sender)) gp
    ∙ ap (λ o. ordering_then (ordering_then o (nat_cmp f.stream g.stream)) (nat_cmp f.sender g.sender)) (number_same p)
    ∙ ap (λ m. ordering_then (nat_cmp m g.stream) (nat_cmp f.sender g.sender)) fs
    ∙ ap (λ m. ordering_then (nat_cmp s m) (nat_cmp f.sender g.sender)) gt
    ∙ ap (λ o. ordering_then o (nat_cmp f.sender g.sender)) (number_less s t less)

by_port : (f g : Feed) (p q : ℕ) → f.port ≡ p → g.port ≡ q → p < q → IsBefore f g
by_port f g p q fp gq less =
    ap (λ m. ordering_then (ordering_then (nat_cmp m g.port) (nat_cmp f.stream g.stream)) (nat_cmp f.sender g.sender)) fp
    ∙ ap (λ m. ordering_then (ordering_then (nat_cmp p m) (nat_cmp f.stream g.stream)) (nat_cmp f.sender g.sender)) gq
    ∙ ap (λ o. ordering_then (ordering_then o (nat_cmp f.stream g.stream)) (nat_cmp f.sender g.sender)) (number_less p q less)

from_rise : (p s : ℕ) (senders : List ℕ) → Rise Below senders → Rise IsBefore (feeds_from p s senders)
from_rise p s [] up = tt
from_rise p s (i ∷ senders) up = (
  λ g h.
      let m = Has-from_map (λ k. let one : Feed = record { port = p; stream = s; sender = k } in one) g senders h in
      subst (IsBefore (record { port = p; stream = s; sender = i })) m.2 (by_sender p s i m.0 (up.0 m.0 m.1)),
  from_rise p s senders up.1,
)

from_is : (p s : ℕ) (senders : List ℕ) (f : Feed) → Has f (feeds_from p s senders) → (f.port ≡ p) × (f.stream ≡ s)
from_is p s senders f h =
    let m = Has-from_map (λ k. let one : Feed = record { port = p; stream = s; sender = k } in one) f senders h in (
      ap (λ (g : Feed). g.port) (sym m.2),
      ap (λ (g : Feed). g.stream) (sym m.2),
    )

module _ (v : View) (c j : ℕ) where
  abbrev of_port : ℕ → List Feed
  of_port p = flat_map (λ s. feeds_from p s (senders_for v c j s)) (streams_to v c p)

  port_is : (p : ℕ) (f : Feed) → Has f (of_port p) → f.port ≡ p
  port_is p f h =
      let m = Has-from_flat_map (λ s. feeds_from p s (senders_for v c j s)) f (streams_to v c p) h in
      (from_is p m.0 (senders_for v c j m.0) f m.2).0

  port_rises : (p : ℕ) → Rise IsBefore (of_port p)
  port_rises p =
      rise_joined Below IsBefore (λ s. feeds_from p s (senders_for v c j s)) (streams_to v c p)
      (rise_filter Below _ (below (length v.streams)) (range_rises (length v.streams) 0))
      (λ s h. from_rise p s (senders_for v c j s) (rise_filter Below (is_sender v c j s) (below (stream_replicas v s)) (range_rises (stream_replicas v s) 0)))
      (λ s t f g less h k.
      let a = from_is p s (senders_for v c j s) f h in
      let b = from_is p t (senders_for v c j t) g k in
      by_stream f g p s t a.0 b.0 a.1 b.1 less)

  pub feeds_rise : FeedsRise (feeds_for v c j)
  feeds_rise =
      subst FeedsRise (feeds_sent v c j)
      (pairs_of_rise IsBefore (flat_map of_port (port_numbers v c))
      (rise_joined Below IsBefore of_port (port_numbers v c) (range_rises _ 0) (λ p h. port_rises p)
      (λ p q f g less h k. by_port f g p q (port_is p f h) (port_is q g k) less)))

-- ---- the search

feed_total : IsTotalOrder feed_cmp
feed_total = then_total (then_total (on_total (λ (f : Feed). f.port) nat_cmp_total) (on_total (λ (f : Feed). f.stream) nat_cmp_total)) (on_total (λ (f : Feed). f.sender) nat_cmp_total)

module _ (feeds : List Feed) (rise : FeedsRise feeds) (wanted : Feed) where
  abbrev is_wanted : Feed → Bool
  is_wanted feed = feed.port == wanted.port && (feed.stream == wanted.stream && feed.sender == wanted.sender)

  joined : (a b c : Bool) → ((a && b) && c) ≡ (a && (b && c))
  joined true b c = refl
  joined false b c = refl

  tests : (f : Feed) → is_wanted f ≡ is_eq (feed_cmp f wanted)
  tests f =
      sym
      (is_eq-then (ordering_then (nat_cmp f.port wanted.port) (nat_cmp f.stream wanted.stream)) (nat_cmp f.sender wanted.sender)
      ∙ ap (λ b. b && is_eq (nat_cmp f.sender wanted.sender)) (is_eq-then (nat_cmp f.port wanted.port) (nat_cmp f.stream wanted.stream))
      ∙ ap (λ b. (b && is_eq (nat_cmp f.stream wanted.stream)) && is_eq (nat_cmp f.sender wanted.sender)) (is_eq-numbers f.port wanted.port)
      ∙ ap (λ b. (f.port == wanted.port && b) && is_eq (nat_cmp f.sender wanted.sender)) (is_eq-numbers f.stream wanted.stream)
      ∙ ap (λ b. (f.port == wanted.port && f.stream == wanted.stream) && b) (is_eq-numbers f.sender wanted.sender)
      ∙ joined (f.port == wanted.port) (f.stream == wanted.stream) (f.sender == wanted.sender))

  found : (i : ℕ) → i < length feeds → HoldsAt (λ f. feed_cmp f wanted ≡ Equal) feeds i → position is_wanted feeds ≡ Some i
  found i within here =
      let first : position_or_len is_wanted feeds ≡ i =
      position_or_len_is is_wanted feeds i no_feed (omega (arith, within))
      (λ k less. tests (get_or feeds k no_feed) ∙ ap is_eq (sym (alike_right feed_total (get_or feeds i no_feed) wanted (get_or feeds k no_feed) (here no_feed)) ∙ rise k i no_feed less within))
      (λ w. tests (get_or feeds i no_feed) ∙ ap is_eq (here no_feed)) in
      ap (λ n. cond (nat_lt n (length feeds)) (Some n) None) first
      ∙ ap (λ b. cond b (Some i) None) (lt-ltb i (length feeds) within)

  sorted : IsSortedBy (λ f g. is_lt (feed_cmp f g)) feeds
  sorted k d from within =
      ap is_lt (feed_total.antisymm (get_or feeds (k + 1) d) (get_or feeds k d) ∙ ap ordering_reverse (rise k (k + 1) d (omega arith) within))

  missing : (i : ℕ) → ((k : ℕ) (d : Feed) → 0 ≤ k → k < i → feed_cmp (get_or feeds k d) wanted ≡ Less) → ((k : ℕ) (d : Feed) → i ≤ k → k < length feeds → feed_cmp (get_or feeds k d) wanted ≡ Greater) → position is_wanted feeds ≡ None
  missing i less more =
      let none : position_or_len is_wanted feeds ≡ length feeds =
      position_or_len_is is_wanted feeds (length feeds) no_feed (omega arith)
      (λ k within. tests (get_or feeds k no_feed)
      ∙ elim (cases_lt k i) [
        | inl before ↦ ap is_eq (less k no_feed (omega arith) before)
        | inr behind ↦ ap is_eq (more k no_feed behind within)
      ])
      (λ w. absurd (omega (arith, w))) in
      ap (λ n. cond (nat_lt n (length feeds)) (Some n) None) none
      ∙ ap (λ b. cond b (Some (length feeds)) None) (le-ltb (length feeds) (length feeds) (omega arith))

  -- what the search answers is the place of the first that is wanted
  pub searched_feed : (r : Result ℕ ℕ) → IsSearchInRange r (length feeds) → IsBinarySearchResult (λ f. feed_cmp f wanted) feeds r → result_ok r ≡ position is_wanted feeds
  searched_feed (Ok i) within is = sym (found i within is)
  searched_feed (Err i) within is =
      let parts = is (searchable_from_sorted feed_total (λ (f : Feed). f) feeds wanted sorted) in
      sym (missing i parts.0 parts.1)
