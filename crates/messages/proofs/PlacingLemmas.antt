-- The records of some lists, where they were placed in the order in which they stand there: a list that keeps its place keeps its messages, and the pool has exactly their records.
use Rattle.std.proofs.Common.{◌≡◌, ◌==◌, ◌<◌, ◌≤◌, ◌+◌, ◌⊎◌, ℕ, zero, suc, nat_lt, if◌then◌else◌, Bool, true, false, Option, None, Some, List, [], ◌∷◌, ◌++◌, length, map, set, get_or, slice_get, take, drop, take-append-drop, refl, ap, ◌∙◌, sym, subst, inl, inr, arith, length-append}
use Rattle.std.specs.List.{All}
use Rattle.std.specs.Option.{option_and_then}
use Rattle.std.proofs.lemmas.Option.{slice_get-get_or}
use Rattle.std.proofs.lemmas.Bool.{cases_eq, cases_lt}
use Rattle.std.proofs.lemmas.Bool.Decides.{nat_tests}
use Rattle.std.proofs.lemmas.List.{take_all, take_more, get_or_append_left, get_or_default, get_or_push, get_or_past, get_or-take, length-take, length-map, length-set, get_or-set_same, get_or-set_other, same_lists}
use Rattle.std.proofs.lemmas.List.Sums.{sum_by-append, sum_by-take-le}
use Rattle.blz_value.specs.Members.{Has}
use Rattle.blz_value.specs.Record.{Row as Record}
use Rattle.blz_value.specs.Message.{Message, row, row_in, rows_in}
use Rattle.blz_value.proofs.Membership.{Has-append_left, Has-append_right, Has-append_cases, Has-get_or, Has-map, Contains-from_Has}
use Rattle.blz_pool.specs.Entries.{row_with_id}
use Rattle.messages.specs.EmittedCounts.{IsTallied, AreTallied}
use Rattle.messages.specs.EmittedIds.{id_in}
use Rattle.messages.specs.Ids.{message_with_id, IsGiven}
use Rattle.messages.specs.Lists.{read_list, list_at, total, IsExact, KeepsFirst}
use Rattle.messages.specs.Code.Placing.{IsBelow, known_behind, GoesOn, HaveFirst, AreEmptiedFrom}
use Rattle.messages.specs.declared.counts.Tally.{Tally}
use Rattle.messages.specs.declared.message.Message.{Message as IdMessage}
use Rattle.messages.specs.declared.message.Message.TheVariants.{Row, Seal}
use Rattle.messages.proofs.ListsLemmas.{read-at, read_on}
use Rattle.messages.proofs.Passing.{Has-filter_map}

-- ---- what is below

below_more : (n m : ℕ) (message : IdMessage) → n ≤ m → IsBelow n message → IsBelow m message
below_more n m (Row id) le below = omega (arith, le, below)
below_more n m (Seal key count) le below = tt

below_given : (records : List Record) (count : ℕ) (message : IdMessage) → count ≤ length records → IsBelow count message → IsGiven (take count records) message
below_given records count (Row id) few below = omega (arith, few, below, length-take count records)
below_given records count (Seal key number) few below = tt

-- ---- a list, message by message

pub goes_none : (before : ℕ) → GoesOn before [] before
goes_none before = record {
  more = omega arith;
  few = omega arith;
  below = λ message h. absurd h;
  met = λ id from less. absurd (omega (arith, from, less));
}

goes_with : (before known after : ℕ) (list : List IdMessage) (message : IdMessage) → GoesOn before list known → known ≤ after → after ≤ known + 1 → IsBelow after message
    → ((id : ℕ) → known ≤ id → id < after → message ≡ Row id) → GoesOn before (list ++ message ∷ []) after
goes_with before known after list message on more few below is = record {
  more = omega (arith, on.more, more);
  few = omega (arith, on.few, few, length-append list (message ∷ []));
  below = λ other h. elim (Has-append_cases other list (message ∷ []) h) [
    | inl old ↦ below_more known after other more (on.below other old)
    | inr last ↦ elim last [ inl e ↦ subst (IsBelow after) e below | inr none ↦ absurd none ]
  ];
  met = λ id from less. elim (cases_lt id known) [
    | inl old ↦ Has-append_left (Row id) list (message ∷ []) (on.met id from old)
    | inr past ↦ Has-append_right (Row id) list (message ∷ []) (inl (is id (omega (arith, past)) less))
  ];
}

-- what a found number is
abbrev number_in : Option ℕ → ℕ
number_in None = 0
number_in (Some n) = n

-- a message more, whose id, if it has one, is known behind it
pub goes_on : (before known after : ℕ) (list : List IdMessage) (message : IdMessage) (number : Option ℕ) → number ≡ id_in message → GoesOn before list known → known_behind number known ≡ Some after → GoesOn before (list ++ message ∷ []) after
goes_on before known after list (Seal key count) number at on behind =
    let same : known ≡ after = ap number_in (sym (ap (λ (r : Option ℕ). known_behind r known) at) ∙ behind) in
    goes_with before known after list (Seal key count) on (omega (arith, same)) (omega (arith, same)) tt (λ id from less. absurd (omega (arith, from, less, same)))
goes_on before known after list (Row id) number at on behind = by (nat_lt id known) refl (id == known) refl (sym (ap (λ (r : Option ℕ). known_behind r known) at) ∙ behind)
  where
    by : (b : Bool) → nat_lt id known ≡ b → (c : Bool) → (id == known) ≡ c → (if b then Some known else (if c then Some (id + 1) else None)) ≡ Some after → GoesOn before (list ++ Row id ∷ []) after
    by true less c test e =
        let same : known ≡ after = ap number_in e in
        let old : id < known = grind (arith, nat_tests) in
        goes_with before known after list (Row id) on (omega (arith, same)) (omega (arith, same)) (omega (arith, old, same)) (λ other from less. absurd (omega (arith, from, less, same)))
    by false less true test e =
        let same : id + 1 ≡ after = ap number_in e in
        let next : id ≡ known = grind (arith, nat_tests) in
        goes_with before known after list (Row id) on (omega (arith, same, next)) (omega (arith, same, next)) (omega (arith, same)) (λ other from less. ap Row (omega (arith, from, less, same, next)))
    by false less false test e = cc

-- a message of a list, by its place
pub row_at : (list : List IdMessage) (index : ℕ) (d : IdMessage) (number : Option ℕ) → number ≡ option_and_then id_in (slice_get list index) → index < length list → number ≡ id_in (get_or list index d)
row_at list index d number e within = e ∙ ap (option_and_then id_in) (slice_get-get_or list index d within)

-- and what is known behind it
pub goes_further : (before known after index : ℕ) (list : List IdMessage) (number found : Option ℕ) → index < length list → number ≡ option_and_then id_in (slice_get list index) → found ≡ known_behind number known → found ≡ Some after
    → GoesOn before (take index list) known → GoesOn before (take (index + 1) list) after
goes_further before known after index list number found within at is some on =
    subst (λ (l : List IdMessage). GoesOn before l after) (sym (take_more list index (Row 0) within))
    (goes_on before known after (take index list) (get_or list index (Row 0)) number (row_at list index (Row 0) number at within) on (sym is ∙ some))

-- up to its end
pub goes_all : (before known index : ℕ) (list : List IdMessage) → length list ≤ index → GoesOn before (take index list) known → GoesOn before list known
goes_all before known index list ends on = subst (λ (l : List IdMessage). GoesOn before l known) (take_all index list ends) on

-- ---- lists, one by one

pub none_first : HaveFirst [] 0
none_first = record {
  few = omega arith;
  below = λ place message h. absurd (subst (λ (l : List IdMessage). Has message l) (get_or_past [] place [] (omega arith)) h);
  met = λ id less. absurd (omega (arith, less));
}

pub first_more : (lists : List (List IdMessage)) (list : List IdMessage) (known after : ℕ) → HaveFirst lists known → GoesOn known list after → HaveFirst (lists ++ list ∷ []) after
first_more lists list known after have on = record {
  few = omega (arith, have.few, on.few, sum_by-append length lists (list ∷ []));
  below = λ place message h. elim (cases_lt place (length lists)) [
    | inl old ↦ below_more known after message on.more (have.below place message (subst (λ (l : List IdMessage). Has message l) (get_or_append_left lists (list ∷ []) [] place old) h))
    | inr past ↦ elim (cases_eq (length lists) place) [
      | inl last ↦ on.below message (subst (λ (l : List IdMessage). Has message l) (get_or_push lists list [] place last) h)
      | inr beyond ↦ absurd (subst (λ (l : List IdMessage). Has message l) (get_or_past (lists ++ list ∷ []) place [] (omega (arith, past, beyond, length-append lists (list ∷ [])))) h)
    ]
  ];
  met = λ id less. elim (cases_lt id known) [
    | inl old ↦
        let found = have.met id old in (
          found.0,
          omega (arith, found.1, length-append lists (list ∷ [])),
          subst (λ (l : List IdMessage). Has (Row id) l) (sym (get_or_append_left lists (list ∷ []) [] found.0 found.1)) found.2,
        )
    | inr past ↦ (
      length lists,
      omega (arith, length-append lists (list ∷ [])),
      subst (λ (l : List IdMessage). Has (Row id) l) (sym (get_or_push lists list [] (length lists) refl)) (on.met id (omega (arith, past)) less),
    )
  ];
}

-- one list more of some
pub first_further : (lists : List (List IdMessage)) (index known after : ℕ) (list : List IdMessage) → index < length lists → list ≡ get_or lists index list → HaveFirst (take index lists) known → GoesOn known list after → HaveFirst (take (index + 1) lists) after
first_further lists index known after list within at have on =
    subst (λ (ls : List (List IdMessage)). HaveFirst ls after) (sym (take_more lists index list within))
    (subst (λ (l : List IdMessage). HaveFirst (take index lists ++ l ∷ []) after) at (first_more (take index lists) list known after have on))

-- ---- what is emptied

-- of the lists those from one place to before another are empty and have no tally, and all others are as they were
pub record AreEmptied (first place : ℕ) (old new : List (List IdMessage)) (tallies now : List (Option Tally)) : Type 0 where
  pub count : length new ≡ length old
  pub many : length now ≡ length tallies
  pub outside : (k : ℕ) → (k < first) ⊎ (place ≤ k) → list_at new k ≡ list_at old k
  pub inside : (k : ℕ) → first ≤ k → k < place → list_at new k ≡ []
  pub tallies_outside : (k : ℕ) → (k < first) ⊎ (place ≤ k) → get_or now k None ≡ get_or tallies k None
  pub tallies_inside : (k : ℕ) → first ≤ k → k < place → get_or now k None ≡ None

pub emptied_none : (first : ℕ) (lists : List (List IdMessage)) (tallies : List (Option Tally)) → AreEmptied first first lists lists tallies tallies
emptied_none first lists tallies = record {
  count = refl;
  many = refl;
  outside = λ k out. refl;
  inside = λ k from less. absurd (omega (arith, from, less));
  tallies_outside = λ k out. refl;
  tallies_inside = λ k from less. absurd (omega (arith, from, less));
}

-- one place more
pub emptied_more : (first place : ℕ) (old mid new : List (List IdMessage)) (tallies now later : List (Option Tally)) → AreEmptied first place old mid tallies now → first ≤ place → place < length mid → place < length now
    → new ≡ set mid place [] → later ≡ set now place None → AreEmptied first (place + 1) old new tallies later
emptied_more first place old mid new tallies now later are from within there set_is gone_is = record {
  count = ap length set_is ∙ length-set mid place [] ∙ are.count;
  many = ap length gone_is ∙ length-set now place None ∙ are.many;
  outside = λ k out.
      ap (λ (l : List (List IdMessage)). list_at l k) set_is
      ∙ get_or-set_other mid place k [] [] (apart k out)
      ∙ are.outside k (wider k out);
  inside = λ k least less. elim (cases_eq k place) [
    | inl same ↦ ap (λ (l : List (List IdMessage)). list_at l k) set_is ∙ ap (λ (n : ℕ). list_at (set mid place []) n) same ∙ get_or-set_same mid place [] [] within
    | inr differ ↦ ap (λ (l : List (List IdMessage)). list_at l k) set_is ∙ get_or-set_other mid place k [] [] differ ∙ are.inside k least (omega (arith, less, differ))
  ];
  tallies_outside = λ k out.
      ap (λ (l : List (Option Tally)). get_or l k None) gone_is
      ∙ get_or-set_other now place k None None (apart k out)
      ∙ are.tallies_outside k (wider k out);
  tallies_inside = λ k least less. elim (cases_eq k place) [
    | inl same ↦ ap (λ (l : List (Option Tally)). get_or l k None) gone_is ∙ ap (λ (n : ℕ). get_or (set now place None) n None) same ∙ get_or-set_same now place None None there
    | inr differ ↦ ap (λ (l : List (Option Tally)). get_or l k None) gone_is ∙ get_or-set_other now place k None None differ ∙ are.tallies_inside k least (omega (arith, less, differ))
  ];
}
  where
    apart : (k : ℕ) → (k < first) ⊎ (place + 1 ≤ k) → k ≡ place → ⊥
    apart k (inl less) same = absurd (omega (arith, less, from, same))
    apart k (inr more) same = absurd (omega (arith, more, same))

    wider : (k : ℕ) → (k < first) ⊎ (place + 1 ≤ k) → (k < first) ⊎ (place ≤ k)
    wider k (inl less) = inl less
    wider k (inr more) = inr (omega (arith, more))

-- up to the end
pub emptied_all : (first place : ℕ) (old new : List (List IdMessage)) (tallies now : List (Option Tally)) → AreEmptied first place old new tallies now → length old ≤ place → length tallies ≡ length old → AreEmptiedFrom first old new tallies now
emptied_all first place old new tallies now are ends many = record {
  count = are.count;
  many = are.many;
  kept = λ k less. are.outside k (inl less);
  emptied = λ k from. elim (cases_lt k place) [
    | inl less ↦ are.inside k from less
    | inr past ↦ get_or_past new k [] (omega (arith, past, ends, are.count))
  ];
  tallies_kept = λ k less. are.tallies_outside k (inl less);
  tallies_gone = λ k from. elim (cases_lt k place) [
    | inl less ↦ are.tallies_inside k from less
    | inr past ↦ get_or_past now k None (omega (arith, past, ends, many, are.many))
  ];
}

-- ---- the lists that are kept, read in the pool that is left

all_members : {X : Type 0} (P : X → Type 0) (xs : List X) → ((x : X) → Has x xs → P x) → All P xs
all_members P xs each = λ k d within. each (get_or xs k d) (Has-get_or xs k d within)

module _ (records : List Record) (count first : ℕ) (lists new : List (List IdMessage)) (tallies now : List (Option Tally)) (given : All (All (IsGiven records)) lists) (have : HaveFirst (take first lists) count)
    (are : AreEmptiedFrom first lists new tallies now) where
  -- the records of the first lists
  abbrev left : List Record
  left = take count records

  first_at : (k : ℕ) → k < first → list_at (take first lists) k ≡ list_at lists k
  first_at k less = get_or-take first lists k [] less

  -- no more than the pool has
  few_left : count ≤ length records
  few_left = by count refl
    where
      by : (n : ℕ) → count ≡ n → count ≤ length records
      by zero e = omega (arith, e)
      by (suc id) e =
          let found = have.met id (omega (arith, e)) in
          let less : found.0 < first = omega (arith, found.1, length-take first lists) in
          let there : found.0 < length lists = omega (arith, found.1, length-take first lists) in
          let has : Has (Row id) (list_at lists found.0) = subst (λ (l : List IdMessage). Has (Row id) l) (first_at found.0 less) found.2 in
          let place = Contains-from_Has (list_at lists found.0) (Row id) has in
          let one : IsGiven records (Row id) = subst (IsGiven records) place.2 (given found.0 [] there place.0 (Row id) place.1) in
          omega (arith, e, one)

  kept_given : (k : ℕ) → k < first → All (IsGiven left) (list_at lists k)
  kept_given k less = all_members (IsGiven left) (list_at lists k) (λ message h. below_given records count message few_left (have.below k message (subst (λ (l : List IdMessage). Has message l) (sym (first_at k less)) h)))

  new_given : (k : ℕ) → All (IsGiven left) (list_at new k)
  new_given k = elim (cases_lt k first) [
    | inl less ↦ subst (All (IsGiven left)) (sym (are.kept k less)) (kept_given k less)
    | inr past ↦ subst (All (IsGiven left)) (sym (are.emptied k past)) (all_members (IsGiven left) [] (λ message h. absurd h))
  ]

  pub left_given : All (All (IsGiven left)) new
  left_given k d within = subst (All (IsGiven left)) (get_or_default new k [] d within) (new_given k)

  -- a list reads in the pool that is left as it did
  same_read : (list : List IdMessage) → All (IsGiven left) list → read_list left list ≡ read_list records list
  same_read list all = ap (λ (l : List (List Message)). list_at l 0) (sym (read_on left records (list ∷ []) (record { more = drop count records; with_more = take-append-drop count records }) (one list all)))
    where
      one : (l : List IdMessage) → All (IsGiven left) l → All (All (IsGiven left)) (l ∷ [])
      one l all zero d within = all
      one l all (suc k) d within = absurd (omega (arith, within))

  read_kept : (k : ℕ) → k < first → list_at (map (read_list left) new) k ≡ list_at (map (read_list records) lists) k
  read_kept k less = sym (read-at left new k) ∙ ap (read_list left) (are.kept k less) ∙ same_read (list_at lists k) (kept_given k less) ∙ read-at records lists k

  read_emptied : (k : ℕ) → first ≤ k → list_at (map (read_list left) new) k ≡ []
  read_emptied k past = sym (read-at left new k) ∙ ap (read_list left) (are.emptied k past)

  pub keeps : KeepsFirst first (map (read_list records) lists) (map (read_list left) new)
  keeps = record {
    count = length-map new (read_list left) ∙ are.count ∙ sym (length-map lists (read_list records));
    kept = read_kept;
    emptied = read_emptied;
  }

  pub left_tallied : AreTallied tallies (map (read_list records) lists) → AreTallied now (map (read_list left) new)
  left_tallied all k = elim (cases_lt k first) [
    | inl less ↦
        subst (λ (t : Option Tally). IsTallied t (list_at (map (read_list left) new) k)) (sym (are.tallies_kept k less))
        (subst (IsTallied (get_or tallies k None)) (sym (read_kept k less)) (all k))
    | inr past ↦ subst (λ (t : Option Tally). IsTallied t (list_at (map (read_list left) new) k)) (sym (are.tallies_gone k past)) tt
  ]

  -- and the pool has exactly their records
  same_first : take first new ≡ take first lists
  same_first = same_lists (take first new) (take first lists) (omega (arith, length-take first new, length-take first lists, are.count))
      (λ k d within.
      let less : k < first = omega (arith, within, length-take first new) in
      let inside : k < length new = omega (arith, within, length-take first new) in
      let there : k < length lists = omega (arith, inside, are.count) in
      get_or-take first new k d less ∙ get_or_default new k d [] inside ∙ are.kept k less ∙ sym (get_or_default lists k d [] there) ∙ sym (get_or-take first lists k d less))

  pub exact_left : IsExact (record { records = left; lists = new })
  exact_left = record {
    emitted = λ r h.
        let at = Contains-from_Has left r h in
        let below : at.0 < count = omega (arith, at.1, length-take count records) in
        let found = have.met at.0 below in
        let less : found.0 < first = omega (arith, found.1, length-take first lists) in
        let has : Has (Row at.0) (list_at new found.0) = subst (λ (l : List IdMessage). Has (Row at.0) l) (first_at found.0 less ∙ sym (are.kept found.0 less)) found.2 in
        let is : row_with_id left at.0 ≡ r = sym (get_or_default left at.0 r [] at.1) ∙ at.2 in (
          found.0,
          omega (arith, found.1, length-take first lists, are.count),
          subst (λ (l : List Message). Has r (rows_in l)) (read-at left new found.0)
              (subst (λ (q : Record). Has q (rows_in (read_list left (list_at new found.0)))) is
              (Has-filter_map row_in (row (row_with_id left at.0)) (row_with_id left at.0) (read_list left (list_at new found.0)) (Has-map (message_with_id left) (Row at.0) (list_at new found.0) has) refl)),
        );
    few = omega (arith, length-take count records, have.few, ap total same_first, sum_by-take-le length new first);
  }
