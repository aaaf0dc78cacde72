-- What one more record makes of emitted lists by ids is, read in the pool, what the definitions make of the lists.
use Rattle.std.proofs.Common.{◌≡◌, ◌<◌, ◌≤◌, ◌+◌, ◌||◌, ℕ, zero, suc, Bool, true, false, List, [], ◌∷◌, ◌++◌, Some, length, map, replicate, set, get_or, slice_get, refl, ap, ◌∙◌, sym, subst, inl, inr, ◌⊎◌, arith, length-append}
use Rattle.std.specs.Prelude.{if◌then◌else◌, ◌==◌}
use Rattle.std.specs.List.{All, list_any, fold}
use Rattle.std.proofs.lemmas.Bool.{cases_Bool, cases_eq, cases_lt, eq-eqb, ne_eqb, false_from_ne_true}
use Rattle.std.proofs.lemmas.List.{get_or_append_left, map-append, map-set, get_or-set_same, get_or-set_other, length-set, length-map, get_or_past}
use Rattle.std.proofs.lemmas.List.Sums.{sum_by-set}
use Rattle.std.proofs.lemmas.Option.{get_or_from_slice_get, slice_get-get_or}
use Rattle.blz_value.specs.Members.{Has}
use Rattle.blz_value.specs.Record.{Row as Record}
use Rattle.blz_value.proofs.Membership.{Has-append_left, Has-append_right, Has-append_cases, Has-get_or, any_from_Has, Has-from_any}
use Rattle.blz_value.specs.Message.{Message, row, is_same_row, rows_in}
use Rattle.messages.specs.Emitted.{with_row, Continues}
use Rattle.messages.specs.Ids.{message_with_id, IsGiven}
use Rattle.blz_pool.specs.Entries.{row_with_id}
use Rattle.messages.specs.Messages.{is_same_message}
use Rattle.messages.specs.declared.message.Message.{Message as IdMessage}
use Rattle.messages.specs.declared.message.Message.TheVariants.{Row, Seal}
use Rattle.messages.proofs.MessagesLemmas.{is_same_row-is, is_same_row-itself}
use Rattle.messages.proofs.EmittedLemmas.{continues_itself, continues_with, with_row-continues, rows_in-append, rows-with_row}
use Rattle.messages.specs.Lists.{message_limit, Listed, read_list, read_lists, list_at, total, AllAreGiven, IsExact, OneListBecomes}
use Rattle.messages.specs.EmittedIds.{is_row_with, with_id}

-- ---- a longer pool

message-longer : (records more : List Record) (m : IdMessage) → IsGiven records m → message_with_id (records ++ more) m ≡ message_with_id records m
message-longer records more (Row id) given = ap row (get_or_append_left records more [] id given)
message-longer records more (Seal key count) given = refl

read-longer : (records more : List Record) (list : List IdMessage) → All (IsGiven records) list → read_list (records ++ more) list ≡ read_list records list
read-longer records more [] given = refl
read-longer records more (m ∷ list) given =
    let first = message-longer records more m (given 0 m (omega arith)) in
    let rest = read-longer records more list (λ k d within. given (suc k) d (omega arith)) in
    λ i. first i ∷ rest i

read_all-longer : (records more : List Record) (lists : List (List IdMessage)) → All (All (IsGiven records)) lists → map (read_list (records ++ more)) lists ≡ map (read_list records) lists
read_all-longer records more [] given = refl
read_all-longer records more (list ∷ lists) given =
    let first = read-longer records more list (given 0 list (omega arith)) in
    let rest = read_all-longer records more lists (λ k d within. given (suc k) d (omega arith)) in
    λ i. first i ∷ rest i

-- the lists, read in a pool that went on
pub read_on : (records later : List Record) (lists : List (List IdMessage)) → Continues records later → All (All (IsGiven records)) lists → map (read_list later) lists ≡ map (read_list records) lists
read_on records later lists on given = subst (λ l. map (read_list l) lists ≡ map (read_list records) lists) on.with_more (read_all-longer records on.more lists given)

given-longer : (records more : List Record) (m : IdMessage) → IsGiven records m → IsGiven (records ++ more) m
given-longer records more (Row id) given = omega (arith, length-append records more)
given-longer records more (Seal key count) given = tt

pub given_on : (records later : List Record) (m : IdMessage) → Continues records later → IsGiven records m → IsGiven later m
given_on records later m on given = subst (λ l. IsGiven l m) on.with_more (given-longer records on.more m given)

pub all_given_on : (records later : List Record) (lists : List (List IdMessage)) → Continues records later → All (All (IsGiven records)) lists → All (All (IsGiven later)) lists
all_given_on records later lists on given k d within j e inside = given_on records later (get_or (get_or lists k d) j e) on (given k d within j e inside)

-- one list read alone
pub read-at : (records : List Record) (lists : List (List IdMessage)) (place : ℕ) → read_list records (list_at lists place) ≡ list_at (map (read_list records) lists) place
read-at records [] place = refl
read-at records (list ∷ lists) zero = refl
read-at records (list ∷ lists) (suc place) = read-at records lists place

-- empty lists
pub read-empty : (records : List Record) (n : ℕ) → map (read_list records) (replicate n []) ≡ replicate n []
read-empty records zero = refl
read-empty records (suc n) = ap (λ l. [] ∷ l) (read-empty records n)

-- ---- one record more

-- what the pool says of an id
pub record IsIdOf (records : List Record) (id : ℕ) (r : Record) : Type 0 where
  pub record_is : slice_get records id ≡ Some r
  pub one : (other : ℕ) → slice_get records other ≡ Some r → other ≡ id

same_id : (records : List Record) (id other : ℕ) (r : Record) → IsIdOf records id r → other < length records → (id == other) ≡ is_same_row r (row_with_id records other)
same_id records id other r is within = elim (cases_eq id other) [
  | inl same ↦
      let read : row_with_id records other ≡ r = ap (row_with_id records) (sym same) ∙ get_or_from_slice_get records id r [] is.record_is in
      eq-eqb id other same ∙ sym (subst (λ z. is_same_row r z ≡ true) (sym read) (is_same_row-itself r))
  | inr differ ↦
      ne_eqb id other differ
      ∙ sym (false_from_ne_true (is_same_row r (row_with_id records other)) (λ same. differ (sym (is.one other (slice_get-get_or records other [] within ∙ ap (λ z. Some z) (sym (is_same_row-is r (row_with_id records other) same)))))))
]

same_message : (records : List Record) (id : ℕ) (m : IdMessage) (r : Record) → IsIdOf records id r → IsGiven records m → is_row_with id m ≡ is_same_message (row r) (message_with_id records m)
same_message records id (Row other) r is given = same_id records id other r is given
same_message records id (Seal key count) r is given = refl

has-read : (records : List Record) (list : List IdMessage) (id : ℕ) (r : Record) → IsIdOf records id r → All (IsGiven records) list → list_any (is_row_with id) list ≡ list_any (is_same_message (row r)) (read_list records list)
has-read records [] id r is given = refl
has-read records (m ∷ list) id r is given =
    let first = same_message records id m r is (given 0 m (omega arith)) in
    let rest = has-read records list id r is (λ k d within. given (suc k) d (omega arith)) in
    λ i. first i || rest i

pub with_id-read : (records : List Record) (list : List IdMessage) (id : ℕ) (r : Record) → IsIdOf records id r → All (IsGiven records) list → read_list records (with_id list id) ≡ with_row (read_list records list) r
with_id-read records list id r is given =
    by_test (list_any (is_row_with id) list)
    ∙ ap (λ t. if t then read_list records list else read_list records list ++ row r ∷ []) (has-read records list id r is given)
  where
    by_test : (b : Bool) → read_list records (if b then list else list ++ Row id ∷ []) ≡ (if b then read_list records list else read_list records list ++ row r ∷ [])
    by_test true = refl
    by_test false = map-append (message_with_id records) list (Row id ∷ []) ∙ ap (λ z. read_list records list ++ row z ∷ []) (get_or_from_slice_get records id r [] is.record_is)

-- ---- sizes

length-read : (records : List Record) (lists : List (List IdMessage)) (n : ℕ) → fold (λ a (l : List Message). a + length l) n (map (read_list records) lists) ≡ fold (λ a (l : List IdMessage). a + length l) n lists
length-read records [] n = refl
length-read records (list ∷ lists) n = ap (λ k. fold (λ a (l : List Message). a + length l) (n + k) (map (read_list records) lists)) (length-map list (message_with_id records)) ∙ length-read records lists (n + length list)

pub total-read : (l : Listed) → total (read_lists l) ≡ total l.lists
total-read l = length-read l.records l.lists 0

pub length-continues : {X : Type 0} (xs ys : List X) → Continues xs ys → length xs ≤ length ys
length-continues xs ys on = subst (λ l. length xs ≤ length l) on.with_more (omega (arith, length-append xs on.more))

-- a list that goes on makes the total no less
pub total-longer : {X : Type 0} (lists : List (List X)) (place : ℕ) (one other : List X) → place < length lists → Continues one other → total (set lists place one) ≤ total (set lists place other)
total-longer lists place one other within on =
    omega (arith, length-continues one other on, sum_by-set length lists place one [] within, sum_by-set length lists place other [] within)

pub total-same : {X : Type 0} (lists : List (List X)) (place : ℕ) (one : List X) → place < length lists → Continues (list_at lists place) one → total lists ≤ total (set lists place one)
total-same lists place one within on = omega (arith, length-continues (list_at lists place) one on, sum_by-set length lists place one [] within)

-- ---- a record is emitted

has_test : (r : Record) (records : List Record) → Has r records ⊎ ¬ Has r records
has_test r records = elim (cases_Bool (list_any (is_same_row r) records)) [
  | inl there ↦
      let m = Has-from_any (is_same_row r) records there in
      inl (subst (λ z. Has z records) (sym (is_same_row-is r m.0 m.2)) m.1)
  | inr none ↦ inr (λ h. let no : true ≡ false = sym (any_from_Has (is_same_row r) r records h (is_same_row-itself r)) ∙ none in cc)
]

-- the pool after a record is placed
pub record IsPlaced (old new : List Record) (r : Record) : Type 0 where
  pub known : Has r old → new ≡ old
  pub last : ¬ Has r old → new ≡ old ++ r ∷ []

pub placed-on : (old new : List Record) (r : Record) → IsPlaced old new r → Continues old new
placed-on old new r placed = elim (has_test r old) [
  | inl known ↦ subst (λ l. Continues old l) (sym (placed.known known)) (continues_itself old)
  | inr fresh ↦ subst (λ l. Continues old l) (sym (placed.last fresh)) (continues_with old (r ∷ []))
]

placed-cases : (old new : List Record) (r q : Record) → IsPlaced old new r → Has q new → Has q old ⊎ (r ≡ q)
placed-cases old new r q placed h = elim (has_test r old) [
  | inl known ↦ inl (subst (λ l. Has q l) (placed.known known) h)
  | inr fresh ↦ elim (Has-append_cases q old (r ∷ []) (subst (λ l. Has q l) (placed.last fresh) h)) [
    | inl before ↦ inl before
    | inr same ↦ elim same [ inl is ↦ inr is | inr none ↦ absurd none ]
  ]
]

-- what an emission makes: the pool has placed the record, and one list has its id
pub record IsPut (old new : Listed) (place id : ℕ) (r : Record) : Type 0 where
  pub placed : IsPlaced old.records new.records r
  pub is : IsIdOf new.records id r
  pub lists : new.lists ≡ set old.lists place (with_id (list_at old.lists place) id)

-- an emission in two steps: the record is placed, and its id is put behind the list
pub one_put : (old mid new : Listed) (place id : ℕ) (r : Record) → IsPlaced old.records mid.records r → IsIdOf mid.records id r → mid.lists ≡ old.lists → new.records ≡ mid.records → new.lists ≡ set mid.lists place (with_id (list_at mid.lists place) id) → IsPut old new place id r
one_put old mid new place id r placed is same kept put = record {
  placed = subst (λ l. IsPlaced old.records l r) (sym kept) placed;
  is = subst (λ l. IsIdOf l id r) (sym kept) is;
  lists = put ∙ ap (λ l. set l place (with_id (list_at l place) id)) same;
}

pub given-list : (l : Listed) (place : ℕ) → AllAreGiven l → All (IsGiven l.records) (list_at l.lists place)
given-list l place given = elim (cases_lt place (length l.lists)) [
  | inl within ↦ given place [] within
  | inr past ↦ subst (λ list. All (IsGiven l.records) list) (sym (get_or_past l.lists place [] past)) (λ k d within. absurd (omega arith))
]

pub put-becomes : (old new : Listed) (place id : ℕ) (r : Record) → AllAreGiven old → IsPut old new place id r → OneListBecomes old new place (with_row (list_at (read_lists old) place) r)
put-becomes old new place id r given put =
    let on : Continues old.records new.records = placed-on old.records new.records r put.placed in
    let list : List IdMessage = list_at old.lists place in
    let later : All (IsGiven new.records) list = (λ k d within. given_on old.records new.records (get_or list k d) on (given-list old place given k d within)) in
    let all : map (read_list new.records) old.lists ≡ read_lists old = read_on old.records new.records old.lists on given in
    record {
      records = on;
      lists =
          ap (map (read_list new.records)) put.lists
          ∙ map-set (read_list new.records) old.lists place (with_id list id)
          ∙ ap (λ l. set l place (read_list new.records (with_id list id))) all
          ∙ ap (set (read_lists old) place) (with_id-read new.records list id r put.is later ∙ ap (λ l. with_row l r) (read-at new.records old.lists place ∙ ap (λ l. list_at l place) all));
    }

-- the rows of a list that goes on
rows-on : (one other : List Message) (q : Record) → Continues one other → Has q (rows_in one) → Has q (rows_in other)
rows-on one other q on h = subst (λ l. Has q (rows_in l)) on.with_more (subst (λ rows. Has q rows) (sym (rows_in-append one on.more)) (Has-append_left q (rows_in one) (rows_in on.more) h))

-- a list that one emission changed, at any place
at-becomes : (old new : Listed) (place at : ℕ) (r q : Record) → OneListBecomes old new place (with_row (list_at (read_lists old) place) r) → place < length (read_lists old) → Has q (rows_in (list_at (read_lists old) at)) → Has q (rows_in (list_at (read_lists new) at))
at-becomes old new place at r q becomes within h =
    let list : List Message = with_row (list_at (read_lists old) place) r in
    subst (λ l. Has q (rows_in (list_at l at))) (sym becomes.lists)
    (elim (cases_eq at place) [
      | inl same ↦ subst (λ l. Has q (rows_in l)) (sym (ap (list_at (set (read_lists old) place list)) same ∙ get_or-set_same (read_lists old) place list [] within)) (rows-on (list_at (read_lists old) place) list q (with_row-continues (list_at (read_lists old) place) r) (subst (λ n. Has q (rows_in (list_at (read_lists old) n))) same h))
      | inr differ ↦ subst (λ l. Has q (rows_in l)) (sym (get_or-set_other (read_lists old) place at list [] differ)) h
    ])

length-lists : (old new : Listed) (place : ℕ) (list : List Message) → OneListBecomes old new place list → length (read_lists new) ≡ length (read_lists old)
length-lists old new place list becomes = ap length becomes.lists ∙ length-set (read_lists old) place list

-- a record that is new in the pool is new in each list, so the list grows
fresh_list : (old : Listed) (place : ℕ) (r : Record) → AllAreGiven old → ¬ Has r old.records → list_any (is_same_message (row r)) (list_at (read_lists old) place) ≡ false
fresh_list old place r given fresh =
    ap (list_any (is_same_message (row r))) (sym (read-at old.records old.lists place))
    ∙ none (list_at old.lists place) (given-list old place given)
  where
    not_this : (m : IdMessage) → IsGiven old.records m → is_same_message (row r) (message_with_id old.records m) ≡ false
    not_this (Row id) is = false_from_ne_true (is_same_row r (row_with_id old.records id)) (λ same. fresh (subst (λ z. Has z old.records) (sym (is_same_row-is r (row_with_id old.records id) same)) (Has-get_or old.records id [] is)))
    not_this (Seal key count) is = refl

    none : (list : List IdMessage) → All (IsGiven old.records) list → list_any (is_same_message (row r)) (read_list old.records list) ≡ false
    none [] all = refl
    none (m ∷ list) all =
        let first = not_this m (all 0 m (omega arith)) in
        let rest = none list (λ k d within. all (suc k) d (omega arith)) in
        λ i. first i || rest i

length-fresh : (list : List Message) (r : Record) → list_any (is_same_message (row r)) list ≡ false → length (with_row list r) ≡ length list + 1
length-fresh list r none = ap (λ t. length (if t then list else list ++ row r ∷ [])) none ∙ length-append list (row r ∷ [])

pub put-exact : (old new : Listed) (place id : ℕ) (r : Record) → AllAreGiven old → place < length old.lists → IsExact old → IsPut old new place id r → IsExact new
put-exact old new place id r given within exact put =
    let becomes = put-becomes old new place id r given put in
    let before : List (List Message) = read_lists old in
    let list : List Message = with_row (list_at before place) r in
    let there : place < length before = omega (arith, length-map old.lists (read_list old.records), within) in
    let lengths : length (read_lists new) ≡ length before = length-lists old new place list becomes in
    let sizes : length new.lists ≡ length old.lists = sym (length-map new.lists (read_list new.records)) ∙ lengths ∙ length-map old.lists (read_list old.records) in
    let grown : total new.lists ≡ total (set before place list) = sym (total-read new) ∙ ap total becomes.lists in
    let not_less : total old.lists ≤ total new.lists = subst (λ n. total old.lists ≤ n) (sym grown) (subst (λ n. n ≤ total (set before place list)) (total-read old) (total-same before place list there (with_row-continues (list_at before place) r))) in
    record {
      emitted = λ q h. elim (placed-cases old.records new.records r q put.placed h) [
        | inl known ↦
            let e = exact.emitted q known in
            (e.0, subst (λ n. e.0 < n) (sym sizes) e.1, at-becomes old new place e.0 r q becomes there e.2)
        | inr same ↦ (
          place,
          subst (λ n. place < n) (sym sizes) within,
          subst (λ l. Has q (rows_in (list_at l place))) (sym becomes.lists)
              (subst (λ l. Has q (rows_in l)) (sym (get_or-set_same before place list [] there))
              ((rows-with_row (list_at before place) r).1 q (Has-append_right q (rows_in (list_at before place)) (r ∷ []) (inl same)))),
        )
      ];
      few = elim (has_test r old.records) [
        | inl known ↦ omega (arith, ap length (put.placed.known known), exact.few, not_less)
        | inr fresh ↦
            let longer : length list ≡ length (list_at before place) + 1 = length-fresh (list_at before place) r (fresh_list old place r given fresh) in
            let more : total (set before place list) ≡ total before + 1 = omega (arith, longer, sum_by-set length before place list [] there) in
            omega (arith, ap length (put.placed.last fresh), length-append old.records (r ∷ []), exact.few, grown, more, total-read old)
      ];
    }

-- there are as many lists as before
pub same_count : (old new : Listed) (place : ℕ) (list : List Message) → OneListBecomes old new place list → length new.lists ≡ length old.lists
same_count old new place list becomes = sym (length-map new.lists (read_list new.records)) ∙ length-lists old new place list becomes ∙ length-map old.lists (read_list old.records)

pub length-read_lists : (l : Listed) → length (read_lists l) ≡ length l.lists
length-read_lists l = length-map l.lists (read_list l.records)

pub few_read : (l : Listed) → total l.lists ≤ message_limit → total (read_lists l) ≤ message_limit
few_read l few = subst (λ n. n ≤ message_limit) (sym (total-read l)) few

-- ---- where the limit is met

-- the pool is full and the record isn't in it
pub full-over : (old : Listed) (place : ℕ) (r : Record) → AllAreGiven old → place < length old.lists → IsExact old → message_limit ≤ length old.records → ¬ Has r old.records
    → message_limit < total (set (read_lists old) place (with_row (list_at (read_lists old) place) r))
full-over old place r given within exact full fresh =
    let before : List (List Message) = read_lists old in
    let there : place < length before = omega (arith, length-map old.lists (read_list old.records), within) in
    let longer = length-fresh (list_at before place) r (fresh_list old place r given fresh) in
    omega (arith, longer, sum_by-set length before place (with_row (list_at before place) r) [] there, exact.few, total-read old)

-- the lists have as many messages as they may, and the record isn't in the list
pub limit-over : (old mid : Listed) (place id : ℕ) (r : Record) → AllAreGiven old → place < length old.lists → IsPlaced old.records mid.records r → IsIdOf mid.records id r → mid.lists ≡ old.lists
    → total mid.lists ≡ message_limit → list_any (is_row_with id) (list_at mid.lists place) ≡ false
    → message_limit < total (set (read_lists old) place (with_row (list_at (read_lists old) place) r))
limit-over old mid place id r given within placed is same full none =
    let before : List (List Message) = read_lists old in
    let on : Continues old.records mid.records = placed-on old.records mid.records r placed in
    let list : List IdMessage = list_at old.lists place in
    let later : All (IsGiven mid.records) list = (λ k d inside. given_on old.records mid.records (get_or list k d) on (given-list old place given k d inside)) in
    let all : map (read_list mid.records) old.lists ≡ before = read_on old.records mid.records old.lists on given in
    let not_there : list_any (is_same_message (row r)) (list_at before place) ≡ false =
    ap (list_any (is_same_message (row r))) (sym (read-at mid.records old.lists place ∙ ap (λ l. list_at l place) all))
    ∙ sym (has-read mid.records list id r is later)
    ∙ ap (λ l. list_any (is_row_with id) (list_at l place)) (sym same)
    ∙ none in
    let there : place < length before = omega (arith, length-map old.lists (read_list old.records), within) in
    omega (arith, length-fresh (list_at before place) r not_there, sum_by-set length before place (with_row (list_at before place) r) [] there, ap total (sym same), full, total-read old)
