-- The tallies of lists, a record or a seal more, and where a tally is taken away and put back.
use Rattle.std.proofs.Common.{◌≡◌, ◌<◌, ◌≤◌, ◌+◌, ℕ, zero, suc, Option, None, Some, List, [], ◌∷◌, ◌++◌, length, map, replicate, set, get_or, slice_get, refl, ap, ◌∙◌, sym, subst, inl, inr, arith}
use Rattle.std.specs.Prelude.{if◌then◌else◌, IfSome}
use Rattle.std.specs.List.{All}
use Rattle.std.proofs.lemmas.Bool.{cases_eq}
use Rattle.std.proofs.lemmas.List.{map-append, map-set, length-map, length-set, set-set, set-get_or, get_or-set_same, get_or-set_other, get_or_default, length-replicate}
use Rattle.std.proofs.lemmas.List.Sums.{get_or-le-sum_by}
use Rattle.std.proofs.lemmas.Option.{get_or_from_slice_get}
use Rattle.blz_value.specs.Operators.{cells}
use Rattle.blz_value.specs.Record.{Row as Record}
use Rattle.blz_value.specs.Message.{Message, row, seal, is_same_row}
use Rattle.messages.specs.Emitted.{count_in, Continues}
use Rattle.messages.specs.Ids.{message_with_id, IsGiven}
use Rattle.blz_pool.specs.Entries.{row_with_id}
use Rattle.messages.specs.declared.message.Message.{Message as IdMessage}
use Rattle.messages.specs.declared.message.Message.TheVariants.{Row, Seal}
use Rattle.messages.specs.Lists.{message_limit, read_list, list_at, total}
use Rattle.messages.specs.EmittedCounts.{count_of, HasRoom, IsTallyOf, IsTallied, AreTallied}
use Rattle.messages.specs.declared.counts.Tally.{Tally}
use Rattle.messages.proofs.ListSeals.{count_in-row, count_in-seal, count-le}
use Rattle.messages.proofs.ListsLemmas.{read-at, read_on}

-- ---- one tally

-- a record more is counted
pub tally_more : (old new : Tally) (r : Record) → new.columns ≡ old.columns → ((k : Record) → count_of new.counts k ≡ count_of old.counts k + (if is_same_row (cells old.columns r) k then 1 else 0))
    → (list : List Message) → IsTallyOf old list → IsTallyOf new (list ++ row r ∷ [])
tally_more old new r same more list is k =
    more k
    ∙ ap (λ n. n + (if is_same_row (cells old.columns r) k then 1 else 0)) (is k)
    ∙ sym (count_in-row old.columns list r k (is_same_row (cells old.columns r) k) refl)
    ∙ ap (λ columns. count_in columns (list ++ row r ∷ []) k) (sym same)

-- a seal more isn't
pub tallied_seal : (tally : Option Tally) (list : List Message) (key : Record) (n : ℕ) → IsTallied tally list → IsTallied tally (list ++ seal key n ∷ [])
tallied_seal None list key n is = tt
tallied_seal (Some t) list key n is = λ k. is k ∙ sym (count_in-seal t.columns list key n k)

-- a list within the limit leaves room
pub room_left : (tally : Option Tally) (list : List Message) → IsTallied tally list → length list ≤ message_limit → IfSome tally HasRoom
room_left None list is few = tt
room_left (Some t) list is few = λ k. omega (arith, is k, count-le t.columns list k, few)

-- ---- all tallies

-- one place changes
pub tallied_set : (tallies : List (Option Tally)) (lists : List (List Message)) (place : ℕ) (tally : Option Tally) (list : List Message)
    → AreTallied tallies lists → place < length tallies → place < length lists → IsTallied tally list → AreTallied (set tallies place tally) (set lists place list)
tallied_set tallies lists place tally list all within there is k = elim (cases_eq k place) [
  | inl same ↦
      subst (λ n. IsTallied (get_or (set tallies place tally) n None) (list_at (set lists place list) n)) (sym same)
      (subst (λ t. IsTallied t (list_at (set lists place list) place)) (sym (get_or-set_same tallies place tally None within))
      (subst (IsTallied tally) (sym (get_or-set_same lists place list [] there)) is))
  | inr differ ↦
      subst (λ t. IsTallied t (list_at (set lists place list) k)) (sym (get_or-set_other tallies place k tally None differ))
      (subst (IsTallied (get_or tallies k None)) (sym (get_or-set_other lists place k list [] differ)) (all k))
]

-- and put back, or another in its place
pub tallied_back : (tallies : List (Option Tally)) (lists : List (List Message)) (place : ℕ) (tally : Option Tally) → AreTallied tallies lists → place < length tallies → place < length lists → IsTallied tally (list_at lists place)
    → AreTallied (set (set tallies place None) place tally) lists
tallied_back tallies lists place tally all within there is =
    subst (λ ts. AreTallied ts lists) (sym (set-set tallies place None tally))
    (subst (AreTallied (set tallies place tally)) (set-get_or lists place []) (tallied_set tallies lists place tally (list_at lists place) all within there is))

-- none at all
no_tally : (n place : ℕ) → get_or (replicate n (let none : Option Tally = None in none)) place None ≡ None
no_tally zero place = refl
no_tally (suc n) zero = refl
no_tally (suc n) (suc place) = no_tally n place

pub none_tallied : (tallies : List (Option Tally)) (n : ℕ) (lists : List (List Message)) → tallies ≡ replicate n None → AreTallied tallies lists
none_tallied tallies n lists are place = subst (λ t. IsTallied t (list_at lists place)) (sym (ap (λ ts. get_or ts place None) are ∙ no_tally n place)) tt

pub none_many : {X Y : Type 0} (tallies : List (Option X)) (lists : List (List Y)) (n : ℕ) → tallies ≡ replicate n None → lists ≡ replicate n [] → length tallies ≡ length lists
none_many {X} {Y} tallies lists n are empty = ap length are ∙ length-replicate {A = Option X} n None ∙ sym (ap length empty ∙ length-replicate {A = List Y} n [])

pub taken_many : {X : Type 0} (tallies taken : List (Option X)) (place : ℕ) → taken ≡ set tallies place None → length taken ≡ length tallies
taken_many tallies taken place left = ap length left ∙ length-set tallies place None

-- ---- lists by ids

module _ (records : List Record) (tallies : List (Option Tally)) (lists : List (List IdMessage)) (place : ℕ) (as_many : length tallies ≡ length lists) (within : place < length lists) (all : AreTallied tallies (map (read_list records) lists)) where
  inside : place < length tallies
  inside = omega (arith, within, as_many)

  there : place < length (map (read_list records) lists)
  there = subst (λ n. place < n) (sym (length-map lists (read_list records))) within

  -- the tally at the place
  pub tally_at : (tally : Option Tally) → tally ≡ get_or tallies place None → IsTallied tally (list_at (map (read_list records) lists) place)
  tally_at tally is = subst (λ t. IsTallied t (list_at (map (read_list records) lists) place)) (sym is) (all place)

  pub room_at : (tally : Option Tally) → tally ≡ get_or tallies place None → total lists ≤ message_limit → IfSome tally HasRoom
  room_at tally is few =
      room_left tally (list_at (map (read_list records) lists) place) (tally_at tally is)
      (omega (arith, ap length (read-at records lists place), length-map (list_at lists place) (message_with_id records), get_or-le-sum_by length lists place [] within, few))

  -- with one put back
  pub with_back : (taken : List (Option Tally)) (tally : Option Tally) → taken ≡ set tallies place None → IsTallied tally (list_at (map (read_list records) lists) place) → AreTallied (set taken place tally) (map (read_list records) lists)
  with_back taken tally is counted = subst (λ ts. AreTallied (set ts place tally) (map (read_list records) lists)) (sym is) (tallied_back tallies (map (read_list records) lists) place tally all inside there counted)

  -- a message goes behind the list
  module _ (old new : List IdMessage) (at : old ≡ get_or lists place old) where
    pub read_before : read_list records old ≡ list_at (map (read_list records) lists) place
    read_before = ap (read_list records) (at ∙ get_or_default lists place old [] within) ∙ read-at records lists place

    changed : (ts : List (Option Tally)) → AreTallied ts (set (map (read_list records) lists) place (read_list records new)) → AreTallied ts (map (read_list records) (set lists place new))
    changed ts is = subst (AreTallied ts) (sym (map-set (read_list records) lists place new)) is

    pub tallied_lost : (taken : List (Option Tally)) → taken ≡ set tallies place None → AreTallied taken (map (read_list records) (set lists place new))
    tallied_lost taken is = changed taken (subst (λ ts. AreTallied ts (set (map (read_list records) lists) place (read_list records new))) (sym is) (tallied_set tallies (map (read_list records) lists) place None (read_list records new) all inside there tt))

    pub tallied_sealed : (key : Record) (n : ℕ) → new ≡ old ++ Seal key n ∷ [] → AreTallied tallies (map (read_list records) (set lists place new))
    tallied_sealed key n pushed =
        let before : List Message = list_at (map (read_list records) lists) place in
        let read : read_list records new ≡ before ++ seal key n ∷ [] = ap (read_list records) pushed ∙ map-append (message_with_id records) old (Seal key n ∷ []) ∙ ap (λ l. l ++ seal key n ∷ []) read_before in
        changed tallies
        (subst (λ ts. AreTallied ts (set (map (read_list records) lists) place (read_list records new))) (set-get_or tallies place None)
        (tallied_set tallies (map (read_list records) lists) place (get_or tallies place None) (read_list records new) all inside there
        (subst (IsTallied (get_or tallies place None)) (sym read) (tallied_seal (get_or tallies place None) before key n (all place)))))

    pub tallied_more : (taken : List (Option Tally)) (tally next : Option Tally) (id : ℕ) (r : Record) → new ≡ old ++ Row id ∷ [] → slice_get records id ≡ Some r → tally ≡ get_or tallies place None → taken ≡ set tallies place None
        → ((list : List Message) → IsTallied tally list → IsTallied next (list ++ row r ∷ [])) → AreTallied (set taken place next) (map (read_list records) (set lists place new))
    tallied_more taken tally next id r pushed here is left more =
        let before : List Message = list_at (map (read_list records) lists) place in
        let read : read_list records new ≡ before ++ row r ∷ [] =
        ap (read_list records) pushed
        ∙ map-append (message_with_id records) old (Row id ∷ [])
        ∙ ap (λ l. l ++ row (row_with_id records id) ∷ []) read_before
        ∙ ap (λ z. before ++ row z ∷ []) (get_or_from_slice_get records id r [] here) in
        changed (set taken place next)
        (subst (λ ts. AreTallied ts (set (map (read_list records) lists) place (read_list records new))) (sym (ap (λ ts. set ts place next) left ∙ set-set tallies place None next))
        (tallied_set tallies (map (read_list records) lists) place next (read_list records new) all inside there
        (subst (IsTallied next) (sym read) (more before (tally_at tally is)))))

-- ---- a pool that went on

pub tallied_on : (records later : List Record) (tallies : List (Option Tally)) (lists : List (List IdMessage)) → Continues records later → All (All (IsGiven records)) lists → AreTallied tallies (map (read_list records) lists) → AreTallied tallies (map (read_list later) lists)
tallied_on records later tallies lists on given all = subst (AreTallied tallies) (sym (read_on records later lists on given)) all
