-- In a complete execution each feed has delivered all, each log has all, and each replica took its whole log.
use Rattle.std.proofs.Common.{◌≡◌, refl, ap, sym, subst, ◌∙◌, ℕ, ◌+◌, ◌<◌, ◌≤◌, Bool, true, false, not, List, [], ◌∷◌, length, filter, get_or, arith, inl, inr}
use Rattle.std.specs.Prelude.{if◌then◌else◌}
use Rattle.std.specs.List.{list_any, sum_by, enumerate_from, range_with_len}
use Rattle.std.proofs.lemmas.Bool.{cases_lt, ltb-true}
use Rattle.std.proofs.lemmas.List.{get_or_past}
use Rattle.std.proofs.lemmas.List.Sums.{sum_by-cons}
use Rattle.std.proofs.lemmas.List.FromFn.{get_or-enumerate_from, length-enumerate_from}
use Rattle.blz_value.specs.Members.{Has}
use Rattle.blz_value.proofs.Membership.{Has-get_or, Has-filter}
use Rattle.blz_value.proofs.MembersInOrder.{in_range}
use Rattle.blz_value.proofs.Booleans.{not_false}
use Rattle.topo_forms.specs.Data.{Data}
use Rattle.topo_forms.specs.Feeds.{no_feed}
use Rattle.topo_forms.specs.View.{is_order_mode}
use Rattle.topo_forms.specs.Messages.{Message}
use Rattle.messages.specs.Messages.{Pair, is_same_pair, all_pairs}
use Rattle.inbox.specs.Wiring.{Wiring, instances_at, instance_at, is_there}
use Rattle.inbox.specs.Executions.{Execution, emitted_list}
use Rattle.inbox.specs.Completeness.{unheard, undelivered, untaken, left_of, left_at, IsComplete}
use Rattle.inbox.specs.Growth.{feed_numbered}
use Rattle.messages.proofs.MessagesLemmas.{is_same_pair-is, is_same_pair-itself, same-from_any}

-- ---- sums that are 0

sum_none : {X : Type 0} (f : X → ℕ) (x : X) (xs : List X) → sum_by f xs ≡ 0 → Has x xs → f x ≡ 0
sum_none f x [] e h = absurd h
sum_none f x (y ∷ xs) e (inl s) = let c = sum_by-cons f y xs in let none : f y ≡ 0 = omega (arith, c, e) in ap f (sym s) ∙ none
sum_none f x (y ∷ xs) e (inr h) = let c = sum_by-cons f y xs in let rest : sum_by f xs ≡ 0 = omega (arith, c, e) in sum_none f x xs rest h

none_left : {X : Type 0} (p : X → Bool) (x : X) (xs : List X) → length (filter p xs) ≡ 0 → Has x xs → p x ≡ false
none_left p x xs e h = elim (p x) as (λ b. p x ≡ b → b ≡ false) [
  | true ↦ λ s. absurd (no_member (filter p xs) x e (Has-filter p x xs h s))
  | false ↦ λ s. refl
] refl
  where
    no_member : {X : Type 0} (ys : List X) (q : X) → length ys ≡ 0 → ¬ Has q ys
    no_member [] q e h = h
    no_member (y ∷ ys) q e h = absurd (omega arith)

Has-enumerate : {X : Type 0} (xs : List X) (n : ℕ) (d : X) → n < length xs → Has (n, get_or xs n d) (enumerate_from 0 xs)
Has-enumerate {X} xs n d within =
    let default : ℕ × X = (n, d) in
    let at : n < length (enumerate_from 0 xs) = subst (λ l. n < l) (sym (length-enumerate_from 0 xs)) within in
    let is : get_or (enumerate_from 0 xs) n default ≡ (0 + n, get_or xs n d) = get_or-enumerate_from 0 xs n default within in
    let number : 0 + n ≡ n = omega arith in
    let place : ℕ → ℕ × X = λ m. (m, get_or xs n d) in
    subst (λ p. Has p (enumerate_from 0 xs)) (is ∙ ap place number) (Has-get_or (enumerate_from 0 xs) n default at)

-- ---- a complete execution

module _ (w : Wiring) (given : Data) (x : Execution) (complete : IsComplete w given x) where
  -- a component that has an instance is there
  component_there : (component replica : ℕ) → is_there w component replica ≡ true → component < length w.components
  component_there component replica there = elim (cases_lt component (length w.components)) [
    | inl within ↦ within
    | inr past ↦
        let none : instances_at w component ≡ [] = get_or_past w.components component [] past in
        let lt : replica < length (instances_at w component) = ltb-true replica (length (instances_at w component)) there in
        let zero_long : length (instances_at w component) ≡ 0 = ap length none in
        absurd (omega (arith, lt, zero_long))
  ]

  nothing_at : (component replica : ℕ) → is_there w component replica ≡ true → left_at w given x component (length (instances_at w component)) ≡ 0
  nothing_at component replica there =
      sum_none (λ place. left_at w given x place.0 (length place.1)) (component, instances_at w component) (enumerate_from 0 w.components) complete.left
      (Has-enumerate w.components component [] (component_there component replica there))

  nothing_of : (component replica : ℕ) → is_there w component replica ≡ true → left_of w given x component replica ≡ 0
  nothing_of component replica there =
      let e = nothing_at component replica there in
      let rest : sum_by (left_of w given x component) (range_with_len 0 (length (instances_at w component))) ≡ 0 = omega (arith, e) in
      sum_none (left_of w given x component) replica (range_with_len 0 (length (instances_at w component))) rest
      (in_range 0 (length (instances_at w component)) replica (omega arith) (let lt : replica < length (instances_at w component) = ltb-true replica (length (instances_at w component)) there in omega (arith, lt)))

  -- an instance that isn't Order heard all messages of all its feeds in its last life
  pub all_delivered : (component replica feed : ℕ) (message : Message) → is_there w component replica ≡ true → is_order_mode (instance_at w component replica).mode ≡ false
      → feed < length (instance_at w component replica).feeds
      → Has message (emitted_list w given x (feed_numbered (instance_at w component replica) feed).stream (feed_numbered (instance_at w component replica) feed).sender)
      → Has (feed, message) (all_pairs (x.lives component replica).last.heard)
  all_delivered component replica feed message there not_order within sent =
      let i = instance_at w component replica in
      let heard : List Pair = all_pairs (x.lives component replica).last.heard in
      let none : undelivered w given x component replica ≡ 0 =
      sym (ap (λ b. if b then untaken x component replica else undelivered w given x component replica) not_order) ∙ nothing_of component replica there in
      let here : length (unheard heard feed (emitted_list w given x (feed_numbered i feed).stream (feed_numbered i feed).sender)) ≡ 0 =
      sum_none (λ place. length (unheard heard place.0 (emitted_list w given x place.1.stream place.1.sender))) (feed, feed_numbered i feed) (enumerate_from 0 i.feeds) none (Has-enumerate i.feeds feed no_feed within) in
      same-from_any is_same_pair is_same_pair-is is_same_pair-itself (feed, message) heard
      (not_false (list_any (is_same_pair (feed, message)) heard) (none_left (λ m. not (list_any (is_same_pair (feed, m)) heard)) message (emitted_list w given x (feed_numbered i feed).stream (feed_numbered i feed).sender) here sent))

  -- a replica of an Order component took its whole log in its last life
  pub all_taken : (component replica : ℕ) → is_there w component replica ≡ true → is_order_mode (instance_at w component replica).mode ≡ true → length (x.logs component) ≤ (x.lives component replica).last.taken
  all_taken component replica there order =
      let none : untaken x component replica ≡ 0 =
      sym (ap (λ b. if b then untaken x component replica else undelivered w given x component replica) order) ∙ nothing_of component replica there in
      omega (arith, none)
