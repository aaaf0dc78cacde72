-- What the waiting records release is the first part of the timesteps, what goes at once the second, and what is held is the rest.
use Rattle.std.proofs.Common.{◌≡◌, refl, ap, sym, subst, ◌∙◌, ℕ, zero, suc, ◌+◌, ◌-◌, ◌<◌, ◌==◌, ◌&&◌, ◌||◌, Bool, true, false, not, cond, Option, Some, None, List, [], ◌∷◌, ◌++◌, length, map, filter, arith, inl, inr, get_or}
use Rattle.std.specs.List.{list_any, fold, filter_map, flat_map, range_with_len, slice_get, cons_option}
use Rattle.std.specs.List.Sorted.{IsStrictlySortedBy}
use Rattle.std.specs.Option.{option_map_or}
use Rattle.std.specs.Ordering.{nat_cmp}
use Rattle.std.specs.Cmp.{nat_cmp_total}
use Rattle.std.specs.FinMap.{nat_cmp-IsAntisymmetric}
use Rattle.std.proofs.lemmas.Bool.{cases_Bool}
use Rattle.std.proofs.lemmas.List.Kept.{IsStrictlySortedBy-filter}
use Rattle.std.proofs.lemmas.List.FromFn.{get_or-range_with_len, length-range_with_len}
use Rattle.std.proofs.lemmas.Map.Keys.{sorted_from_strictly_increasing}
use Rattle.std.proofs.lemmas.Option.{slice_get-get_or}
use Rattle.blz_value.specs.Members.{Has, HaveEqualMembers}
use Rattle.blz_value.specs.Record.{Row}
use Rattle.blz_value.specs.Sets.{set_of, set_by}
use Rattle.blz_value.proofs.Membership.{Has-filter, Has-from_filter, Has-flat_map, Has-from_flat_map, any_from_Has, Has-from_any, filter_members, map_members}
use Rattle.blz_value.proofs.RowSets.{same_set_of}
use Rattle.blz_value.proofs.SetLemmas.{sorted_set_by, Has-from_set_by, Has-set_by, same_sorted}
use Rattle.blz_value.proofs.Ranges.{Has-range as Has-from_range, in_range_from}
use Rattle.blz_value.proofs.Lists.{filter-map}
use Rattle.topo_forms.specs.Messages.{is_same_row}
use Rattle.messages.specs.Messages.{Pair, Batch, Entry, is_same_entry, with_new, firsts}
use Rattle.inbox.specs.Instances.{Instance, is_carrying, key_of_entry, is_of_key}
use Rattle.bloom_eval.specs.Arrivals.{timestep_of}
use Rattle.inbox.specs.Timesteps.{is_whole, is_due, is_of_some, one_by_one, released_steps, newly_whole}
use Rattle.blz_pool.specs.Entries.{EntryId, entry_with_id, entries_with_ids}
use Rattle.inbox.specs.Code.Places.{places_of}
use Rattle.inbox.specs.Code.Waiting.{released_of}
use Rattle.inbox.specs.Code.Heard.{WaitingHeard}
use Rattle.inbox.specs.declared.waiting.Waiting.{Waiting}
use Rattle.messages.proofs.MessagesLemmas.{is_same_entry-is, is_same_entry-itself, Has-firsts, Has-from_firsts}
use Rattle.inbox.proofs.TimestepLemmas.Whole.{BecomesWhole, newly-becomes, becomes-newly, whole-more}
use Rattle.inbox.proofs.TimestepLemmas.UnderSeal.{of_key-is, is-of_key}

-- ---- filters

-- of the numbers below a length those whose elements pass, and then the elements, are the elements that pass
filter_places : {X : Type 0} (xs : List X) (f : ℕ → Option X) (q : ℕ → Bool) (p : X → Bool) (a : ℕ) → ((k : ℕ) (d : X) → k < length xs → f (a + k) ≡ Some (get_or xs k d)) → ((k : ℕ) (d : X) → k < length xs → q (a + k) ≡ p (get_or xs k d))
    → filter_map f (filter q (range_with_len a (length xs))) ≡ filter p xs
filter_places [] f q p a at passes = refl
filter_places {X} (x ∷ xs) f q p a at passes =
    let start : a + 0 ≡ a = omega arith in
    let below : 0 < suc (length xs) = omega arith in
    let here : f a ≡ Some x = ap f (sym start) ∙ at 0 x below in
    let passes_here : q a ≡ p x = ap q (sym start) ∙ passes 0 x below in
    let rest : filter_map f (filter q (range_with_len (a + 1) (length xs))) ≡ filter p xs =
    filter_places xs f q p (a + 1)
    (λ k d less. let next : a + 1 + k ≡ a + suc k = omega arith in ap f next ∙ at (suc k) d (let more : suc k < suc (length xs) = omega arith in more))
    (λ k d less. let next : a + 1 + k ≡ a + suc k = omega arith in ap q next ∙ passes (suc k) d (let more : suc k < suc (length xs) = omega arith in more)) in
    ap (λ b. filter_map f (cond b (a ∷ filter q (range_with_len (a + 1) (length xs))) (filter q (range_with_len (a + 1) (length xs))))) passes_here
    ∙ elim (p x) as (λ b. filter_map f (cond b (a ∷ filter q (range_with_len (a + 1) (length xs))) (filter q (range_with_len (a + 1) (length xs)))) ≡ cond b (x ∷ filter p xs) (filter p xs)) [
      | true ↦ ap (λ (o : Option X). cons_option o (filter_map f (filter q (range_with_len (a + 1) (length xs))))) here ∙ ap (λ l. x ∷ l) rest
      | false ↦ rest
    ]

-- ---- sets of numbers

sorted_range : (a n : ℕ) → IsStrictlySortedBy nat_cmp (range_with_len a n)
sorted_range a n = sorted_from_strictly_increasing (range_with_len a n) (λ k within.
    let count : length (range_with_len a n) ≡ n = length-range_with_len a n in
    let k_in : k < n = omega (arith, within, count) in
    let next_in : k + 1 < n = omega (arith, within, count) in
    let at : get_or (range_with_len a n) k 0 ≡ a + k = get_or-range_with_len a n k 0 k_in in
    let next : get_or (range_with_len a n) (k + 1) 0 ≡ a + (k + 1) = get_or-range_with_len a n (k + 1) 0 next_in in
    omega (arith, at, next))

-- ---- each element once, of those that pass

module _ {X : Type 0} (same : X → X → Bool) (same-is : (a b : X) → same a b ≡ true → a ≡ b) (p : X → Bool) where
  any-filter : (x : X) (xs : List X) → p x ≡ true → list_any (same x) (filter p xs) ≡ list_any (same x) xs
  any-filter x [] px = refl
  any-filter x (y ∷ ys) px = elim (cases_Bool (p y)) [
    | inl t ↦ ap (λ b. list_any (same x) (cond b (y ∷ filter p ys) (filter p ys))) t ∙ ap (λ b. same x y || b) (any-filter x ys px)
    | inr f ↦
        let apart : same x y ≡ false = elim (cases_Bool (same x y)) [ inl e ↦ (let bad : true ≡ false = sym px ∙ ap p (same-is x y e) ∙ f in cc) | inr e ↦ e ] in
        ap (λ b. list_any (same x) (cond b (y ∷ filter p ys) (filter p ys))) f ∙ any-filter x ys px ∙ ap (λ b. b || list_any (same x) ys) (sym apart)
  ]

  filter-last : (xs : List X) (x : X) (b : Bool) → p x ≡ b → filter p (xs ++ x ∷ []) ≡ cond b (filter p xs ++ x ∷ []) (filter p xs)
  filter-last [] x b e = ap (λ c. cond c (x ∷ []) []) e ∙ elim b as (λ c. cond c (x ∷ []) [] ≡ cond c ([] ++ x ∷ []) []) [ true ↦ refl | false ↦ refl ]
  filter-last (y ∷ ys) x b e =
      ap (λ l. cond (p y) (y ∷ l) l) (filter-last ys x b e)
      ∙ elim (p y) as (λ c. cond c (y ∷ cond b (filter p ys ++ x ∷ []) (filter p ys)) (cond b (filter p ys ++ x ∷ []) (filter p ys)) ≡ cond b (cond c (y ∷ filter p ys) (filter p ys) ++ x ∷ []) (cond c (y ∷ filter p ys) (filter p ys))) [
        | true ↦ elim b as (λ c. y ∷ cond c (filter p ys ++ x ∷ []) (filter p ys) ≡ cond c ((y ∷ filter p ys) ++ x ∷ []) (y ∷ filter p ys)) [ true ↦ refl | false ↦ refl ]
        | false ↦ refl
      ]

  with_new-passes : (acc : List X) (x : X) → p x ≡ true → with_new same (filter p acc) x ≡ filter p (with_new same acc x)
  with_new-passes acc x px =
      ap (λ b. cond b (filter p acc) (filter p acc ++ x ∷ [])) (any-filter x acc px)
      ∙ elim (list_any (same x) acc) as (λ b. cond b (filter p acc) (filter p acc ++ x ∷ []) ≡ filter p (cond b acc (acc ++ x ∷ []))) [ true ↦ refl | false ↦ sym (filter-last acc x true px) ]

  with_new-fails : (acc : List X) (x : X) → p x ≡ false → filter p (with_new same acc x) ≡ filter p acc
  with_new-fails acc x px = elim (list_any (same x) acc) as (λ b. filter p (cond b acc (acc ++ x ∷ [])) ≡ filter p acc) [ true ↦ refl | false ↦ filter-last acc x false px ]

  firsts_over : (acc xs : List X) → fold (with_new same) (filter p acc) (filter p xs) ≡ filter p (fold (with_new same) acc xs)
  firsts_over acc [] = refl
  firsts_over acc (x ∷ xs) = elim (cases_Bool (p x)) [
    | inl t ↦
        ap (λ b. fold (with_new same) (filter p acc) (cond b (x ∷ filter p xs) (filter p xs))) t
        ∙ ap (λ l. fold (with_new same) l (filter p xs)) (with_new-passes acc x t) ∙ firsts_over (with_new same acc x) xs
    | inr f ↦
        ap (λ b. fold (with_new same) (filter p acc) (cond b (x ∷ filter p xs) (filter p xs))) f
        ∙ ap (λ l. fold (with_new same) l (filter p xs)) (sym (with_new-fails acc x f)) ∙ firsts_over (with_new same acc x) xs
  ]

  pub firsts-filter : (xs : List X) → firsts same (filter p xs) ≡ filter p (firsts same xs)
  firsts-filter xs = firsts_over [] xs

-- ---- the timestep of equal members

same_map : {X Y : Type 0} (f g : X → Y) (xs : List X) → ((x : X) → f x ≡ g x) → map f xs ≡ map g xs
same_map f g [] same = refl
same_map f g (x ∷ xs) same = ap (λ y. y ∷ map f xs) (same x) ∙ ap (λ l. g x ∷ l) (same_map f g xs same)

pub timestep-members : (ports : ℕ) (xs ys : List Entry) → HaveEqualMembers xs ys → timestep_of ports xs ≡ timestep_of ports ys
timestep-members ports xs ys same =
    same_map (λ (port : ℕ). set_of (map (λ (entry : Entry). entry.1) (filter (λ entry. entry.0 == port) xs))) (λ (port : ℕ). set_of (map (λ (entry : Entry). entry.1) (filter (λ entry. entry.0 == port) ys))) (range_with_len 0 ports)
    (λ port. same_set_of (map (λ (entry : Entry). entry.1) (filter (λ entry. entry.0 == port) xs)) (map (λ (entry : Entry). entry.1) (filter (λ entry. entry.0 == port) ys))
    (map_members (λ (entry : Entry). entry.1) (filter (λ entry. entry.0 == port) xs) (filter (λ entry. entry.0 == port) ys) (filter_members (λ entry. entry.0 == port) xs ys same)))

-- ---- what is released

module _ (i : Instance) (records : List Row) (waits : Entry → Bool) (heard : List Pair) (w : Waiting) (s : WaitingHeard i records waits heard w) (keys : List Row) where
  -- the place of a record of one of the partitions
  abbrev goes_at : ℕ → Bool
  goes_at place = is_of_some i keys (entry_with_id records (get_or w.log place (0, 0)))

  places_in_order : set_by nat_cmp (flat_map (places_of w.places) keys) ≡ filter goes_at (range_with_len 0 (length w.log))
  places_in_order =
      let gathered : List ℕ = flat_map (places_of w.places) keys in
      same_sorted nat_cmp nat_cmp_total (set_by nat_cmp gathered) (filter goes_at (range_with_len 0 (length w.log)))
      (sorted_set_by nat_cmp nat_cmp_total gathered)
      (IsStrictlySortedBy-filter nat_cmp goes_at (range_with_len 0 (length w.log)) (sorted_range 0 (length w.log)))
      (λ place h.
      let m = Has-from_flat_map (places_of w.places) place keys (Has-from_set_by nat_cmp place gathered h) in
      let zero_more : 0 + place ≡ place = omega arith in
      Has-filter goes_at place (range_with_len 0 (length w.log))
      (subst (λ k. Has k (range_with_len 0 (length w.log))) zero_more (in_range_from 0 (length w.log) place (s.within m.0 place m.2)))
      (any_from_Has (λ key. is_of_key i key (entry_with_id records (get_or w.log place (0, 0)))) m.0 keys m.1 (s.placed m.0 place m.2)))
      (λ place h.
      let kept = Has-from_filter goes_at place (range_with_len 0 (length w.log)) h in
      let below : place < 0 + length w.log = Has-from_range 0 (length w.log) place kept.0 in
      let m = Has-from_any (λ key. is_of_key i key (entry_with_id records (get_or w.log place (0, 0)))) keys kept.1 in
      Has-set_by nat_cmp nat_cmp-IsAntisymmetric place gathered
      (Has-flat_map (places_of w.places) m.0 place keys m.1 (s.all m.0 place (omega (arith, below)) m.2)))

  pub released-is : entries_with_ids records (released_of w keys) ≡ filter (is_of_some i keys) (entries_with_ids records w.log)
  released-is =
      let test : EntryId → Bool = λ e. is_of_some i keys (entry_with_id records e) in
      ap (λ places. entries_with_ids records (filter_map (slice_get w.log) places)) places_in_order
      ∙ ap (entries_with_ids records) (filter_places w.log (slice_get w.log) goes_at test 0
      (λ k d below. let zero_more : 0 + k ≡ k = omega arith in ap (slice_get w.log) zero_more ∙ slice_get-get_or w.log k d below)
      (λ k d below. let zero_more : 0 + k ≡ k = omega arith in ap goes_at zero_more ∙ ap test (same_default w.log k (0, 0) d below)))
      ∙ sym (filter-map (entry_with_id records) (is_of_some i keys) w.log)
    where
      same_default : {X : Type 0} (xs : List X) (k : ℕ) (c d : X) → k < length xs → get_or xs k c ≡ get_or xs k d
      same_default [] k c d below = absurd (omega arith)
      same_default (x ∷ xs) zero c d below = refl
      same_default (x ∷ xs) (suc k) c d below = same_default xs k c d (omega arith)

-- ---- the first part

-- of each element once, those that pass are the same at both ends
pub first_steps-are : (i : Instance) (entries chosen : List Entry) (keys : List Row) → chosen ≡ filter (is_of_some i keys) (firsts is_same_entry entries)
    → timestep_of (length i.ports) (filter (λ entry. is_carrying i entry.0) chosen) ∷ one_by_one (length i.ports) (filter (λ entry. not (is_carrying i entry.0)) chosen) ≡ released_steps i (filter (is_of_some i keys) entries)
first_steps-are i entries chosen keys is =
    let own : Entry → Bool = λ entry. is_carrying i entry.0 in
    let other : Entry → Bool = λ entry. not (is_carrying i entry.0) in
    let all : List Entry = filter (is_of_some i keys) entries in
    let once : chosen ≡ firsts is_same_entry all = is ∙ sym (firsts-filter is_same_entry is_same_entry-is (is_of_some i keys) entries) in
    let same : HaveEqualMembers chosen all = (
      λ q h. Has-from_firsts is_same_entry is_same_entry-is is_same_entry-itself q all (subst (λ l. Has q l) once h),
      λ q h. subst (λ l. Has q l) (sym once) (Has-firsts is_same_entry is_same_entry-is is_same_entry-itself q all h),
    ) in
    ap (λ step. step ∷ one_by_one (length i.ports) (filter other chosen)) (timestep-members (length i.ports) (filter own chosen) (filter own all) (filter_members own chosen all same))
    ∙ ap (λ l. timestep_of (length i.ports) (filter own all) ∷ one_by_one (length i.ports) l) (ap (filter other) once ∙ sym (firsts-filter is_same_entry is_same_entry-is other all))

-- ---- what is held

by_values : (i : Instance) (heard : List Pair) (batch : Batch) (entry : Entry) (d s a : Bool) → is_due i heard entry ≡ d → is_of_some i (newly_whole i heard batch) entry ≡ s → is_due i (heard ++ batch) entry ≡ a
    → not d ≡ (s || not a) → (s && not a) ≡ false
    → (not (is_due i heard entry) ≡ (is_of_some i (newly_whole i heard batch) entry || not (is_due i (heard ++ batch) entry))) × ((is_of_some i (newly_whole i heard batch) entry && not (is_due i (heard ++ batch) entry)) ≡ false)
by_values i heard batch entry d s a before some after p q = (
  ap not before ∙ p ∙ sym (ap (λ x. x || not (is_due i (heard ++ batch) entry)) some ∙ ap (λ x. s || not x) after),
  ap (λ x. x && not (is_due i (heard ++ batch) entry)) some ∙ ap (λ x. s && not x) after ∙ q,
)

-- the records that waited before a batch are those that its partitions release and those that wait after it
held_cases : (i : Instance) (heard : List Pair) (batch : Batch) (entry : Entry) (key : Option Row) → key_of_entry i entry ≡ key
    → (not (is_due i heard entry) ≡ (is_of_some i (newly_whole i heard batch) entry || not (is_due i (heard ++ batch) entry))) × ((is_of_some i (newly_whole i heard batch) entry && not (is_due i (heard ++ batch) entry)) ≡ false)
held_cases i heard batch entry None of =
    let none : is_of_some i (newly_whole i heard batch) entry ≡ false = none_of_key (newly_whole i heard batch) in
    let before : is_due i heard entry ≡ true = ap (λ o. option_map_or (is_whole i heard) o true) of in
    let after : is_due i (heard ++ batch) entry ≡ true = ap (λ o. option_map_or (is_whole i (heard ++ batch)) o true) of in
    by_values i heard batch entry true false true before none after refl refl
  where
    none_of_key : (keys : List Row) → is_of_some i keys entry ≡ false
    none_of_key [] = refl
    none_of_key (k ∷ keys) = ap (λ o. option_map_or (is_same_row k) o false || is_of_some i keys entry) of ∙ none_of_key keys
held_cases i heard batch entry (Some key) of =
    let before : is_due i heard entry ≡ is_whole i heard key = ap (λ o. option_map_or (is_whole i heard) o true) of in
    let after : is_due i (heard ++ batch) entry ≡ is_whole i (heard ++ batch) key = ap (λ o. option_map_or (is_whole i (heard ++ batch)) o true) of in
    elim (cases_Bool (is_whole i heard key)) [
      | inl was ↦
          let none : is_of_some i (newly_whole i heard batch) entry ≡ false = elim (cases_Bool (is_of_some i (newly_whole i heard batch) entry)) [
            | inl some ↦ (let b = (from_some some).before in let bad : true ≡ false = sym was ∙ b in cc)
            | inr no_one ↦ no_one
          ] in
          let now : is_whole i (heard ++ batch) key ≡ true = whole-more i heard batch key was in
          by_values i heard batch entry true false true (before ∙ was) none (after ∙ now) refl refl
      | inr partial ↦ elim (cases_Bool (is_whole i (heard ++ batch) key)) [
        | inl now ↦
            let some : is_of_some i (newly_whole i heard batch) entry ≡ true = any_from_Has (λ k. is_of_key i k entry) key (newly_whole i heard batch) (becomes-newly i heard batch key (record { before = partial; after = now })) (is-of_key i key entry of) in
            by_values i heard batch entry false true true (before ∙ partial) some (after ∙ now) refl refl
        | inr still ↦
            let none : is_of_some i (newly_whole i heard batch) entry ≡ false = elim (cases_Bool (is_of_some i (newly_whole i heard batch) entry)) [
              | inl some ↦ (let a = (from_some some).after in let bad : true ≡ false = sym a ∙ still in cc)
              | inr no_one ↦ no_one
            ] in
            by_values i heard batch entry false false false (before ∙ partial) none (after ∙ still) refl refl
      ]
    ]
  where
    from_some : is_of_some i (newly_whole i heard batch) entry ≡ true → BecomesWhole i heard batch key
    from_some e =
        let m = Has-from_any (λ k. is_of_key i k entry) (newly_whole i heard batch) e in
        let same : Some m.0 ≡ Some key = sym (of_key-is i m.0 entry m.2) ∙ of in
        subst (λ k. BecomesWhole i heard batch k) (let is : m.0 ≡ key = cc in is) (newly-becomes i heard batch m.0 m.1)

-- as many
length-split : {X : Type 0} (p q r : X → Bool) (xs : List X) → ((x : X) → (p x ≡ (q x || r x)) × ((q x && r x) ≡ false)) → length (filter p xs) ≡ length (filter q xs) + length (filter r xs)
length-split p q r [] apart = refl
length-split p q r (x ∷ xs) apart =
    let rest : length (filter p xs) ≡ length (filter q xs) + length (filter r xs) = length-split p q r xs apart in
    by (p x) (q x) (r x) (apart x).0 (apart x).1 rest
  where
    by : (a b c : Bool) → a ≡ (b || c) → (b && c) ≡ false → length (filter p xs) ≡ length (filter q xs) + length (filter r xs)
        → length (cond a (x ∷ filter p xs) (filter p xs)) ≡ length (cond b (x ∷ filter q xs) (filter q xs)) + length (cond c (x ∷ filter r xs) (filter r xs))
    by true true true e f rest = cc
    by true true false e f rest = omega (arith, rest)
    by true false true e f rest = omega (arith, rest)
    by true false false e f rest = cc
    by false true c e f rest = cc
    by false false true e f rest = cc
    by false false false e f rest = rest

pub held-after : (i : Instance) (heard : List Pair) (batch : Batch) (entries : List Entry)
    → length (filter (λ entry. not (is_due i heard entry)) entries) - length (filter (is_of_some i (newly_whole i heard batch)) entries) ≡ length (filter (λ entry. not (is_due i (heard ++ batch) entry)) entries)
held-after i heard batch entries =
    let split = length-split (λ entry. not (is_due i heard entry)) (is_of_some i (newly_whole i heard batch)) (λ entry. not (is_due i (heard ++ batch) entry)) entries (λ entry. held_cases i heard batch entry (key_of_entry i entry) refl) in
    omega (arith, split)
