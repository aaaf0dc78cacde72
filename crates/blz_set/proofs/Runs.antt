-- The rows with a key, in an index of rows: a stable sort keeps them as they stood, and a search finds them.
use Rattle.std.proofs.Common.{not, cond, filter, map, ◌&&◌, ◌||◌, ◌≡◌, ℕ, zero, suc, ◌+◌, ◌<◌, ◌≤◌, Bool, true, false, List, [], ◌∷◌, ◌++◌, length, get_or, refl, ap, ◌∙◌, sym, subst, inl, inr, arith, take, drop, take_all, Bor}
use Rattle.std.specs.declared.cmp.Ordering.{Ordering}
use Rattle.std.specs.declared.cmp.Ordering.TheVariants.{Less, Equal, Greater}
use Rattle.std.specs.Ordering.{ordering_reverse, ordering_index, is_lt, is_eq, is_ne}
use Rattle.std.specs.Fn.{Called, ComparesAs}
use Rattle.std.proofs.lemmas.Fn.{always_returns_same}
use denote.Param.Members.{Mut}
use Rattle.std.specs.List.{All, AllWithin, list_any}
use Rattle.std.specs.List.Sorted.{IsNonDecreasingBy, IsPartitionedBy, IsPartitionPoint, IsSortedByKey, IsStableBy, ties}
use Rattle.std.proofs.lemmas.List.{get_or-drop, get_or_default, drop_more, length-drop}
use Rattle.std.proofs.lemmas.List.Elements.{filter_agree}
use Rattle.std.proofs.lemmas.List.Sorted.{searchable_from_sorted}
use Rattle.blz_value.specs.Record.{Row, record_cmp}
use Rattle.blz_value.specs.RecordOrder.{record_cmp_total, record_cmp_exact}
use Rattle.blz_value.specs.Operators.{cells}
use Rattle.blz_value.specs.Groups.{with_key}
use Rattle.blz_value.proofs.Membership.{Has-from_any}
use Rattle.blz_value.proofs.Lists.{filter-map}
use Rattle.blz_set.specs.declared.entry.Entry.{Entry}
use Rattle.blz_set.specs.Code.Entry.{row_of, rows_of, entry_key}
use Rattle.blz_set.specs.Code.Index.{HaveKeys, has_key, is_below, InOrder, StartsAt, HaveSameRuns}

-- ---- filters

none_cons : {X : Type 0} (b : Bool) (x : X) (xs : List X) (rest : Bool) → (b || rest) ≡ false → (rest ≡ false → xs ≡ []) → cond b (x ∷ xs) xs ≡ []
none_cons true x xs rest e h = cc
none_cons false x xs rest e h = h e

filter_none : {X : Type 0} (p : X → Bool) (xs : List X) → list_any p xs ≡ false → filter p xs ≡ []
filter_none p [] e = refl
filter_none p (x ∷ xs) e = none_cons (p x) x (filter p xs) (list_any p xs) e (filter_none p xs)

any-map : {X Y : Type 0} (f : X → Y) (p : Y → Bool) (xs : List X) → list_any p (map f xs) ≡ list_any (λ x. p (f x)) xs
any-map f p [] = refl
any-map f p (x ∷ xs) = ap (λ b. p (f x) || b) (any-map f p xs)

-- the rows with a key, behind references
with_key-rows_of : (columns : List ℕ) (key : Row) (refs : List Entry) → with_key columns key (rows_of refs) ≡ rows_of (filter (λ r. has_key columns key (row_of r)) refs)
with_key-rows_of columns key refs = filter-map row_of (has_key columns key) refs

-- ---- a stable sort keeps the rows with each key as they stood

tie_is : (o r : Ordering) → o ≡ ordering_reverse r → not (is_lt o) && not (is_lt r) ≡ is_eq r
tie_is o Less e = rw e refl
tie_is o Equal e = rw e refl
tie_is o Greater e = rw e refl

eq_is : (o : Ordering) → is_eq o ≡ true → o ≡ Equal
eq_is Less e = cc
eq_is Equal e = refl
eq_is Greater e = cc

pub same_row : (a b : Row) → is_eq (record_cmp a b) ≡ true → a ≡ b
same_row a b e = record_cmp_exact a b (eq_is (record_cmp a b) e)

module _ {X : Type 0} (f : X → Row) (xs ys : List X) (stable : IsStableBy (λ x y. is_lt (record_cmp (f x) (f y))) xs ys) where
  at_element : (x : X) → filter (λ y. is_eq (record_cmp (f y) (f x))) ys ≡ filter (λ y. is_eq (record_cmp (f y) (f x))) xs
  at_element x =
      let tie : (y : X) → ties (λ x y. is_lt (record_cmp (f x) (f y))) x y ≡ is_eq (record_cmp (f y) (f x)) = λ y. tie_is (record_cmp (f x) (f y)) (record_cmp (f y) (f x)) (record_cmp_total.antisymm (f x) (f y)) in
      sym (filter_agree (ties (λ x y. is_lt (record_cmp (f x) (f y))) x) (λ y. is_eq (record_cmp (f y) (f x))) tie ys) ∙ stable x ∙ filter_agree (ties (λ x y. is_lt (record_cmp (f x) (f y))) x) (λ y. is_eq (record_cmp (f y) (f x))) tie xs

  at_found : (key : Row) (zs : List X) → list_any (λ y. is_eq (record_cmp (f y) key)) zs ≡ true → filter (λ y. is_eq (record_cmp (f y) key)) ys ≡ filter (λ y. is_eq (record_cmp (f y) key)) xs
  at_found key zs e =
      let m = Has-from_any (λ y. is_eq (record_cmp (f y) key)) zs e in
      subst (λ k. filter (λ y. is_eq (record_cmp (f y) k)) ys ≡ filter (λ y. is_eq (record_cmp (f y) k)) xs) (same_row (f m.0) key m.2) (at_element m.0)

  at_any : (key : Row) (a b : Bool) → list_any (λ y. is_eq (record_cmp (f y) key)) xs ≡ a → list_any (λ y. is_eq (record_cmp (f y) key)) ys ≡ b → filter (λ y. is_eq (record_cmp (f y) key)) ys ≡ filter (λ y. is_eq (record_cmp (f y) key)) xs
  at_any key true b e g = at_found key xs e
  at_any key false true e g = at_found key ys g
  at_any key false false e g = filter_none (λ y. is_eq (record_cmp (f y) key)) ys g ∙ sym (filter_none (λ y. is_eq (record_cmp (f y) key)) xs e)

  stable_at : (key : Row) → filter (λ y. is_eq (record_cmp (f y) key)) ys ≡ filter (λ y. is_eq (record_cmp (f y) key)) xs
  stable_at key = at_any key (list_any (λ y. is_eq (record_cmp (f y) key)) xs) (list_any (λ y. is_eq (record_cmp (f y) key)) ys) refl refl

-- tests that agree on all elements keep the same
filter_alike : {X : Type 0} (p q : X → Bool) (xs : List X) → All (λ x. p x ≡ q x) xs → filter p xs ≡ filter q xs
filter_alike p q [] same = refl
filter_alike p q (x ∷ xs) same = rw (same 0 x (omega arith)) (ap (λ l. cond (q x) (x ∷ l) l) (filter_alike p q xs (λ k d lt. same (suc k) d (omega arith))))

module _ (columns : List ℕ) (entries : List Entry) (keys : HaveKeys columns entries) where
  -- the rows with a key are those of the entries with the key
  with_key-entries : (key : Row) → with_key columns key (rows_of entries) ≡ rows_of (filter (λ entry. is_eq (record_cmp (entry_key columns entry) key)) entries)
  with_key-entries key =
      with_key-rows_of columns key entries
      ∙ ap rows_of (filter_alike (λ entry. has_key columns key (row_of entry)) (λ entry. is_eq (record_cmp (entry_key columns entry) key)) entries (λ k d lt. ap (λ own. is_eq (record_cmp own key)) (sym (keys k d lt))))

  -- entries in the order of their keys
  pub order_of_keys : IsSortedByKey (entry_key columns) record_cmp entries → InOrder columns entries
  order_of_keys sorted k d low high =
      ap is_lt (ap (λ own. record_cmp own (cells columns (row_of (get_or entries k d)))) (sym (keys (k + 1) d high)) ∙ ap (record_cmp (entry_key columns (get_or entries (k + 1) d))) (sym (keys k d (omega arith)))) ∙ sorted k d low high

  -- the key of an entry at a place
  pub key_at : (k : ℕ) (entry : Entry) → k < length entries → entry ≡ get_or entries k entry → entry_key columns entry ≡ cells columns (row_of entry)
  key_at k entry lt is = subst (λ (x : Entry). entry_key columns x ≡ cells columns (row_of x)) (sym is) (keys k entry lt)

  -- how an entry compares by its key
  pub compared : (k : ℕ) (entry : Entry) → k < length entries → entry ≡ get_or entries k entry → (key own : Row) → own ≡ key → (order : Ordering) → order ≡ record_cmp (entry_key columns entry) own → order ≡ record_cmp (cells columns (row_of entry)) key
  compared k entry lt is key own same order e =
      e ∙ ap (record_cmp (entry_key columns entry)) same ∙ ap (λ mine. record_cmp mine key) (key_at k entry lt is)

-- the entries from a place on have their keys too
pub keys_from : (columns : List ℕ) (entries rest : List Entry) (n : ℕ) → HaveKeys columns entries → rest ≡ drop n entries → HaveKeys columns rest
keys_from columns entries rest n keys is k d lt =
    let at : get_or rest k d ≡ get_or entries (n + k) d = ap (λ (l : List Entry). get_or l k d) is ∙ get_or-drop n entries k d in
    let below : n + k < length entries = omega (arith, ap length is, length-drop n entries) in
    subst (λ (entry : Entry). entry_key columns entry ≡ cells columns (row_of entry)) (sym at) (keys (n + k) d below)

-- a stable sort of entries by their keys keeps the rows with each key
pub sorted_runs : (columns : List ℕ) (rows : List Row) (entries sorted : List Entry) → HaveKeys columns entries → HaveKeys columns sorted → rows_of entries ≡ rows → IsStableBy (λ x y. is_lt (record_cmp (entry_key columns x) (entry_key columns y))) entries sorted → HaveSameRuns columns (rows_of sorted) rows
sorted_runs columns rows entries sorted keys sorted_keys e stable key =
    with_key-entries columns sorted sorted_keys key ∙ ap rows_of (stable_at (entry_key columns) entries sorted stable key) ∙ sym (with_key-entries columns entries keys key) ∙ ap (with_key columns key) e

-- a closure that compares by a key
pub compares : {F X : Type 0} {g : Mut F (Bor X × (Bor X × Unit {0})) Ordering} {f : F} (key : X → Row) → ((a : Bor X × (Bor X × Unit {0})) (r : Ordering) (f' : F) → Called g f a r f' → (r ≡ record_cmp (key a.0.now) (key a.1.0.now)) × (f' ≡ f)) → ComparesAs g (λ x y. is_lt (record_cmp (key x) (key y))) f
compares {g = g} {f = f} key h = always_returns_same g _ f (λ a r f' k. (ap is_lt (h a r f' k).0, (h a r f' k).1))

-- ---- the run of a key

less_ne : (o : Ordering) → is_lt o ≡ true → is_eq o ≡ false
less_ne Less e = refl
less_ne Equal e = cc
less_ne Greater e = cc

ne_is : (o : Ordering) → is_ne o ≡ true → is_eq o ≡ false
ne_is Less e = refl
ne_is Equal e = cc
ne_is Greater e = refl

below_down : (r s : Ordering) → ordering_index r ≤ ordering_index s → is_lt s ≡ true → is_lt r ≡ true
below_down Less s le e = refl
below_down Equal Less le e = absurd (omega arith)
below_down Equal Equal le e = cc
below_down Equal Greater le e = cc
below_down Greater Less le e = absurd (omega arith)
below_down Greater Equal le e = cc
below_down Greater Greater le e = cc

-- what comes after an element that is past the key is past it too
past_up : (r s : Ordering) → ordering_index r ≤ ordering_index s → is_lt r ≡ false → is_eq r ≡ false → is_eq s ≡ false
past_up Less s le e h = cc
past_up Equal s le e h = cc
past_up Greater Less le e h = absurd (omega arith)
past_up Greater Equal le e h = absurd (omega arith)
past_up Greater Greater le e h = refl

module _ {X : Type 0} (p : X → Bool) where
  none_within : (xs : List X) → AllWithin (λ x. p x ≡ false) xs 0 (length xs) → list_any p xs ≡ false
  none_within [] h = refl
  none_within (x ∷ xs) h = rw (h 0 x (omega arith) (omega arith)) (none_within xs (λ k d a b. h (suc k) d (omega arith) (omega arith)))

  -- the elements that pass stand in front
  filter_front : (xs : List X) (n : ℕ) → AllWithin (λ x. p x ≡ true) xs 0 n → AllWithin (λ x. p x ≡ false) xs n (length xs) → take n xs ≡ filter p xs
  filter_front [] zero h more = refl
  filter_front [] (suc n) h more = refl
  filter_front (x ∷ xs) zero h more = sym (filter_none p (x ∷ xs) (none_within (x ∷ xs) more))
  filter_front (x ∷ xs) (suc n) h more =
      rw (h 0 x (omega arith) (omega arith)) (ap (λ l. x ∷ l) (filter_front xs n (λ k d a b. h (suc k) d (omega arith) (omega arith)) (λ k d a b. more (suc k) d (omega arith) (omega arith))))

  -- none before a place passes
  filter_drop : (xs : List X) (i : ℕ) → AllWithin (λ x. p x ≡ false) xs 0 i → filter p (drop i xs) ≡ filter p xs
  filter_drop xs zero h = refl
  filter_drop [] (suc i) h = refl
  filter_drop (x ∷ xs) (suc i) h = rw (h 0 x (omega arith) (omega arith)) (filter_drop xs i (λ k d a b. h (suc k) d (omega arith) (omega arith)))

  any_drop : (xs : List X) (i : ℕ) → AllWithin (λ x. p x ≡ false) xs 0 i → list_any p (drop i xs) ≡ list_any p xs
  any_drop xs zero h = refl
  any_drop [] (suc i) h = refl
  any_drop (x ∷ xs) (suc i) h = rw (h 0 x (omega arith) (omega arith)) (any_drop xs i (λ k d a b. h (suc k) d (omega arith) (omega arith)))

module _ (columns : List ℕ) (key : Row) (refs : List Entry) (order : InOrder columns refs) where
  rising : IsNonDecreasingBy (λ (r : Entry). ordering_index (record_cmp (cells columns (row_of r)) key)) refs
  rising = searchable_from_sorted record_cmp_total (λ (r : Entry). cells columns (row_of r)) refs key order

  pub below_parts : HaveKeys columns refs → IsPartitionedBy (λ entry. is_lt (record_cmp (entry_key columns entry) key)) refs
  below_parts keys i j d le lt e =
      let at : (k : ℕ) → k < length refs → is_lt (record_cmp (entry_key columns (get_or refs k d)) key) ≡ is_below columns key (row_of (get_or refs k d)) = λ k below. ap (λ own. is_lt (record_cmp own key)) (keys k d below) in
      at i (omega arith) ∙ below_down _ _ (rising i j d le lt) (sym (at j lt) ∙ e)

  -- where the entries begin whose keys are not below
  pub start_of_keys : HaveKeys columns refs → (i : ℕ) → i ≤ length refs → IsPartitionPoint (λ entry. is_lt (record_cmp (entry_key columns entry) key) ≡ true) (λ entry. is_lt (record_cmp (entry_key columns entry) key) ≡ false) refs i → StartsAt columns key refs i
  start_of_keys keys i le parts =
      let at : (k : ℕ) (d : Entry) → k < length refs → is_below columns key (row_of (get_or refs k d)) ≡ is_lt (record_cmp (entry_key columns (get_or refs k d)) key) = λ k d below. ap (λ own. is_lt (record_cmp own key)) (sym (keys k d below)) in
      (λ k d low high. at k d (omega arith) ∙ parts.0 k d low high, λ k d low high. at k d high ∙ parts.1 k d low high)

  module _ (i : ℕ) (start : StartsAt columns key refs i) where
    before : AllWithin (λ (r : Entry). has_key columns key (row_of r) ≡ false) refs 0 i
    before k d low high = less_ne (record_cmp (cells columns (row_of (get_or refs k d))) key) (start.0 k d low high)

    -- after an element from the start on that lacks the key, all lack it
    after : (n : ℕ) (x : Entry) → i ≤ n → n < length refs → x ≡ get_or refs n x → has_key columns key (row_of x) ≡ false → AllWithin (λ (r : Entry). has_key columns key (row_of r) ≡ false) refs n (length refs)
    after n x le lt is lacks k d low high =
        let o : Entry → Ordering = λ (r : Entry). record_cmp (cells columns (row_of r)) key in
        let same : x ≡ get_or refs n d = is ∙ get_or_default refs n x d lt in
        past_up (o (get_or refs n d)) (o (get_or refs k d)) (rising n k d low high) (start.1 n d le lt) (subst (λ (r : Entry). is_eq (o r) ≡ false) same lacks)

    module _ (rest : List Entry) (is_rest : rest ≡ drop i refs) where
      rest_at : (k : ℕ) (d : Entry) → get_or rest k d ≡ get_or refs (i + k) d
      rest_at k d = ap (λ (l : List Entry). get_or l k d) is_rest ∙ get_or-drop i refs k d

      -- the front of the rest is the run, where it has the key and the element behind it lacks it
      front_is_run : (n : ℕ) → AllWithin (λ (r : Entry). has_key columns key (row_of r) ≡ true) rest 0 n → AllWithin (λ (r : Entry). has_key columns key (row_of r) ≡ false) rest n (length rest) → rows_of (take n rest) ≡ with_key columns key (rows_of refs)
      front_is_run n has lacks =
          ap rows_of (filter_front (λ (r : Entry). has_key columns key (row_of r)) rest n has lacks)
          ∙ ap (λ (l : List Entry). rows_of (filter (λ (r : Entry). has_key columns key (row_of r)) l)) is_rest
          ∙ ap rows_of (filter_drop (λ (r : Entry). has_key columns key (row_of r)) refs i before)
          ∙ sym (with_key-rows_of columns key refs)

      pub run_to : i + length rest ≡ length refs → (n : ℕ) (x : Entry) → AllWithin (λ (r : Entry). has_key columns key (row_of r) ≡ true) rest 0 n → n < length rest → x ≡ get_or rest n x → is_ne (record_cmp (cells columns (row_of x)) key) ≡ true → rows_of (take n rest) ≡ with_key columns key (rows_of refs)
      run_to whole n x has lt is ne =
          let past = after (i + n) x (omega arith) (omega arith) (is ∙ rest_at n x) (ne_is (record_cmp (cells columns (row_of x)) key) ne) in
          front_is_run n has (λ k d low high. subst (λ (r : Entry). has_key columns key (row_of r) ≡ false) (sym (rest_at k d)) (past (i + k) d (omega arith) (omega arith)))

      pub run_all : (n : ℕ) → n ≡ length rest → AllWithin (λ (r : Entry). has_key columns key (row_of r) ≡ true) rest 0 n → rows_of rest ≡ with_key columns key (rows_of refs)
      run_all n whole has = ap rows_of (sym (take_all n rest (omega arith))) ∙ front_is_run n has (λ k d low high. absurd (omega arith))

    -- the element at the start answers for all
    pub start_tells : (x : Entry) → i < length refs → x ≡ get_or refs i x → is_eq (record_cmp (cells columns (row_of x)) key) ≡ list_any (has_key columns key) (rows_of refs)
    start_tells x lt is =
        let split : drop i refs ≡ x ∷ drop (i + 1) refs = drop_more refs i x lt ∙ ap (λ (r : Entry). r ∷ drop (i + 1) refs) (sym is) in
        told (is_eq (record_cmp (cells columns (row_of x)) key)) refl
        ∙ sym (ap (list_any (λ (r : Entry). has_key columns key (row_of r))) split)
        ∙ any_drop (λ (r : Entry). has_key columns key (row_of r)) refs i before
        ∙ sym (any-map row_of (has_key columns key) refs)
      where
        told : (b : Bool) → is_eq (record_cmp (cells columns (row_of x)) key) ≡ b → is_eq (record_cmp (cells columns (row_of x)) key) ≡ list_any (λ (r : Entry). has_key columns key (row_of r)) (x ∷ drop (i + 1) refs)
        told true e = rw e refl
        told false e =
            let past = after i x (omega arith) lt is e in
            let none = none_within (λ (r : Entry). has_key columns key (row_of r)) (drop (i + 1) refs)
            (λ k d low high. subst (λ (r : Entry). has_key columns key (row_of r) ≡ false) (sym (get_or-drop (i + 1) refs k d)) (past (i + 1 + k) d (omega arith) (omega (arith, length-drop (i + 1) refs)))) in
            e ∙ sym (ap (λ b. b || list_any (λ (r : Entry). has_key columns key (row_of r)) (drop (i + 1) refs)) e ∙ none)

    pub none_starts : length refs ≤ i → false ≡ list_any (has_key columns key) (rows_of refs)
    none_starts le = sym (any-map row_of (has_key columns key) refs ∙ none_within (λ (r : Entry). has_key columns key (row_of r)) refs (λ k d low high. before k d low (omega arith)))
