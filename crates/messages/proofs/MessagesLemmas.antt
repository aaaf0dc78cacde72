-- The tests of messages, pairs and entries are equality, and each element of a list stands once among its firsts.
use Rattle.std.proofs.Common.{◌≡◌, refl, ap, sym, subst, ◌∙◌, ℕ, ◌==◌, Bool, true, false, List, [], ◌∷◌, ◌++◌, inl, inr, ◌⊎◌}
use Rattle.std.specs.Prelude.{if◌then◌else◌}
use Rattle.std.specs.List.{fold, list_any}
use Rattle.std.specs.Cmp.{Equal-is, tied_itself}
use Rattle.std.proofs.lemmas.Bool.{eqb-true, eq-eqb, and_parts, and_from}
use Rattle.std.proofs.lemmas.List.Sums.{fold-append}
use Rattle.blz_value.specs.Members.{Has}
use Rattle.blz_value.specs.Record.{Row, record_cmp}
use Rattle.blz_value.specs.RecordOrder.{record_cmp_total, record_cmp_exact}
use Rattle.blz_value.proofs.Membership.{Has-append_left, Has-append_right, Has-append_cases, any_from_Has, Has-from_any}
use Rattle.blz_value.specs.Message.{Message, row, seal, is_same_row}
use Rattle.messages.specs.Messages.{Pair, Entry, is_same_message, is_same_pair, is_same_entry, with_new, firsts}

-- ---- records

pub is_same_row-is : (a b : Row) → is_same_row a b ≡ true → a ≡ b
is_same_row-is a b e = record_cmp_exact a b ((Equal-is (record_cmp a b)).0 e)

pub is_same_row-itself : (a : Row) → is_same_row a a ≡ true
is_same_row-itself a = (Equal-is (record_cmp a a)).1 (tied_itself record_cmp_total a)

-- ---- messages

seal_same : (j k : Row) (m n : ℕ) → j ≡ k → m ≡ n → seal j m ≡ seal k n
seal_same j k m n p q = ap (λ l. seal l m) p ∙ ap (λ c. seal k c) q

pub is_same_message-is : (a b : Message) → is_same_message a b ≡ true → a ≡ b
is_same_message-is (row a) (row b) e = ap row (is_same_row-is a b e)
is_same_message-is (row a) (seal k n) e = cc
is_same_message-is (seal j m) (row b) e = cc
is_same_message-is (seal j m) (seal k n) e = seal_same j k m n (is_same_row-is j k (and_parts (is_same_row j k) (m == n) e).0) (eqb-true m n (and_parts (is_same_row j k) (m == n) e).1)

pub is_same_message-itself : (a : Message) → is_same_message a a ≡ true
is_same_message-itself (row a) = is_same_row-itself a
is_same_message-itself (seal k n) = and_from (is_same_row k k) (n == n) (is_same_row-itself k) (eq-eqb n n refl)

-- ---- pairs and entries

pair_same : {Y : Type 0} (a b : ℕ × Y) → a.0 ≡ b.0 → a.1 ≡ b.1 → a ≡ b
pair_same {Y} a b p q = let f : ℕ → Y → ℕ × Y = λ n y. (n, y) in ap (λ n. f n a.1) p ∙ ap (λ y. f b.0 y) q

pub is_same_entry-is : (a b : Entry) → is_same_entry a b ≡ true → a ≡ b
is_same_entry-is a b e = pair_same a b (eqb-true a.0 b.0 (and_parts (a.0 == b.0) (is_same_row a.1 b.1) e).0) (is_same_row-is a.1 b.1 (and_parts (a.0 == b.0) (is_same_row a.1 b.1) e).1)

pub is_same_entry-itself : (a : Entry) → is_same_entry a a ≡ true
is_same_entry-itself a = and_from (a.0 == a.0) (is_same_row a.1 a.1) (eq-eqb a.0 a.0 refl) (is_same_row-itself a.1)

pub is_same_pair-is : (a b : Pair) → is_same_pair a b ≡ true → a ≡ b
is_same_pair-is a b e = pair_same a b (eqb-true a.0 b.0 (and_parts (a.0 == b.0) (is_same_message a.1 b.1) e).0) (is_same_message-is a.1 b.1 (and_parts (a.0 == b.0) (is_same_message a.1 b.1) e).1)

pub is_same_pair-itself : (a : Pair) → is_same_pair a a ≡ true
is_same_pair-itself a = and_from (a.0 == a.0) (is_same_message a.1 a.1) (eq-eqb a.0 a.0 refl) (is_same_message-itself a.1)

-- ---- a test that is equality: what it finds, and what it leaves once

module _ {X : Type 0} (same : X → X → Bool) (same-is : (a b : X) → same a b ≡ true → a ≡ b) (same-itself : (a : X) → same a a ≡ true) where
  pub any-from_same : (x : X) (xs : List X) → Has x xs → list_any (same x) xs ≡ true
  any-from_same x xs h = any_from_Has (same x) x xs h (same-itself x)

  pub same-from_any : (x : X) (xs : List X) → list_any (same x) xs ≡ true → Has x xs
  same-from_any x xs e = let m = Has-from_any (same x) xs e in subst (λ z. Has z xs) (sym (same-is x m.0 m.2)) m.1

  -- the members of a list with one more
  with_new-cases : (q x : X) (xs : List X) (b : Bool) → list_any (same x) xs ≡ b → Has q (if b then xs else xs ++ x ∷ []) → Has q xs ⊎ (x ≡ q)
  with_new-cases q x xs true e h = inl h
  with_new-cases q x xs false e h = elim (Has-append_cases q xs (x ∷ []) h) [ inl a ↦ inl a | inr b ↦ elim b [ inl s ↦ inr s | inr n ↦ absurd n ] ]

  pub Has-from_with_new : (q x : X) (xs : List X) → Has q (with_new same xs x) → Has q xs ⊎ (x ≡ q)
  Has-from_with_new q x xs h = with_new-cases q x xs (list_any (same x) xs) refl h

  with_new-old : (q x : X) (xs : List X) (b : Bool) → Has q xs → Has q (if b then xs else xs ++ x ∷ [])
  with_new-old q x xs true h = h
  with_new-old q x xs false h = Has-append_left q xs (x ∷ []) h

  pub Has-with_new_old : (q x : X) (xs : List X) → Has q xs → Has q (with_new same xs x)
  Has-with_new_old q x xs h = with_new-old q x xs (list_any (same x) xs) h

  with_new-new : (x : X) (xs : List X) (b : Bool) → list_any (same x) xs ≡ b → Has x (if b then xs else xs ++ x ∷ [])
  with_new-new x xs true e = same-from_any x xs e
  with_new-new x xs false e = Has-append_right x xs (x ∷ []) (inl refl)

  pub Has-with_new : (x : X) (xs : List X) → Has x (with_new same xs x)
  Has-with_new x xs = with_new-new x xs (list_any (same x) xs) refl

  -- of a list over one that stands there
  over_old : (q : X) (start xs : List X) → Has q start → Has q (fold (with_new same) start xs)
  over_old q start [] h = h
  over_old q start (x ∷ xs) h = over_old q (with_new same start x) xs (Has-with_new_old q x start h)

  over_new : (q : X) (start xs : List X) → Has q xs → Has q (fold (with_new same) start xs)
  over_new q start [] h = absurd h
  over_new q start (x ∷ xs) (inl e) = over_old q (with_new same start x) xs (subst (λ z. Has z (with_new same start x)) e (Has-with_new x start))
  over_new q start (x ∷ xs) (inr h) = over_new q (with_new same start x) xs h

  from_over : (q : X) (start xs : List X) → Has q (fold (with_new same) start xs) → Has q start ⊎ Has q xs
  from_over q start [] h = inl h
  from_over q start (x ∷ xs) h = elim (from_over q (with_new same start x) xs h) [
    | inl a ↦ elim (Has-from_with_new q x start a) [ inl old ↦ inl old | inr e ↦ inr (inl e) ]
    | inr b ↦ inr (inr b)
  ]

  -- each element of a list stands once in its firsts, and no other
  pub Has-firsts : (q : X) (xs : List X) → Has q xs → Has q (firsts same xs)
  Has-firsts q xs h = over_new q [] xs h

  pub Has-from_firsts : (q : X) (xs : List X) → Has q (firsts same xs) → Has q xs
  Has-from_firsts q xs h = elim (from_over q [] xs h) [ inl n ↦ absurd n | inr a ↦ a ]

  -- the firsts with one element more
  pub firsts-more : (xs : List X) (x : X) → firsts same (xs ++ x ∷ []) ≡ with_new same (firsts same xs) x
  firsts-more xs x = fold-append (with_new same) [] xs (x ∷ [])
