-- What one more seal makes of emitted lists by ids is, read in the pool, what the definitions make of the lists.
use Rattle.std.proofs.Common.{◌≡◌, ◌<◌, ◌≤◌, ◌+◌, ◌||◌, ℕ, Option, slice_get, Bool, true, false, cond, List, [], ◌∷◌, ◌++◌, length, map, filter, take, set, get_or, refl, ap, ◌∙◌, sym, subst, inl, inr, arith, append-nil, length-append}
use Rattle.std.specs.Prelude.{if◌then◌else◌}
use Rattle.std.specs.List.{list_any}
use Rattle.std.specs.Option.{option_and_then}
use Rattle.std.proofs.lemmas.Bool.{cases_eq}
use Rattle.std.proofs.lemmas.List.{map-append, map-set, set-get_or, get_or-set_same, get_or-set_other, length-set, length-map, take_more, get_or_default, length-take-le}
use Rattle.std.proofs.lemmas.List.Sums.{sum_by-set, get_or-le-sum_by}
use Rattle.blz_value.specs.Members.{Has}
use Rattle.blz_value.specs.Operators.{cells}
use Rattle.blz_value.specs.Record.{Row as Record}
use Rattle.blz_value.specs.Message.{Message, row, seal, is_same_row, rows_in}
use Rattle.blz_value.proofs.MessagesLemmas.{length-rows_in-le}
use Rattle.messages.specs.Emitted.{has_seal, count_in, with_seal, Continues}
use Rattle.messages.specs.Ids.{message_with_id}
use Rattle.blz_pool.specs.Entries.{row_with_id}
use Rattle.messages.specs.declared.message.Message.{Message as IdMessage}
use Rattle.messages.specs.declared.message.Message.TheVariants.{Row, Seal}
use Rattle.messages.proofs.EmittedLemmas.{continues_itself, with_seal-continues, rows_in-append, rows-with_seal}
use Rattle.messages.specs.Lists.{message_limit, Listed, read_list, read_lists, list_at, total, IsExact, OneListBecomes}
use Rattle.messages.specs.EmittedIds.{id_in, is_seal_of, counts_row}
use Rattle.messages.proofs.LentLists.{row_there}
use Rattle.messages.proofs.ListsLemmas.{read-at, total-read, total-same}

-- ---- a seal that stands there

pub seal-read : (records : List Record) (list : List IdMessage) (key : Record) → list_any (is_seal_of key) list ≡ has_seal (read_list records list) key
seal-read records [] key = refl
seal-read records (Row id ∷ list) key = seal-read records list key
seal-read records (Seal other count ∷ list) key = ap (λ b. is_same_row key other || b) (seal-read records list key)

-- in a list by its place
pub seal-at : (l : Listed) (place : ℕ) (key : Record) → list_any (is_seal_of key) (list_at l.lists place) ≡ has_seal (list_at (read_lists l) place) key
seal-at l place key = seal-read l.records (list_at l.lists place) key ∙ ap (λ list. has_seal list key) (read-at l.records l.lists place)

-- a list that is borrowed is that at its place
pub list_found : (lists : List (List IdMessage)) (l : Listed) (place : ℕ) (list seen : List IdMessage) → lists ≡ l.lists → place < length l.lists → list ≡ get_or lists place list → seen ≡ list → seen ≡ list_at l.lists place
list_found lists l place list seen same within at is = is ∙ at ∙ ap (λ ls. get_or ls place list) same ∙ get_or_default l.lists place list [] within

-- ---- counting a partition

abbrev has_this : (columns : List ℕ) (key : Record) → Record → Bool
has_this columns key r = is_same_row (cells columns r) key

length-filter_push : (p : Record → Bool) (rows : List Record) (r : Record) (b : Bool) → p r ≡ b → length (filter p (rows ++ r ∷ [])) ≡ length (filter p rows) + (if b then 1 else 0)
length-filter_push p [] r b is = go b is
  where
    go : (t : Bool) → p r ≡ t → length (filter p (r ∷ [])) ≡ 0 + (if t then 1 else 0)
    go true e = rw e refl
    go false e = rw e refl
length-filter_push p (q ∷ rows) r b is = go (p q) (length-filter_push p rows r b is)
  where
    go : (t : Bool) → length (filter p (rows ++ r ∷ [])) ≡ length (filter p rows) + (if b then 1 else 0)
        → length (cond t (q ∷ filter p (rows ++ r ∷ [])) (filter p (rows ++ r ∷ []))) ≡ length (cond t (q ∷ filter p rows) (filter p rows)) + (if b then 1 else 0)
    go true rest = omega (arith, rest)
    go false rest = rest

-- a record behind a list is counted, where it is of the partition, and a seal never is
pub count_in-row : (columns : List ℕ) (list : List Message) (r key : Record) (b : Bool) → is_same_row (cells columns r) key ≡ b → count_in columns (list ++ row r ∷ []) key ≡ count_in columns list key + (if b then 1 else 0)
count_in-row columns list r key b is =
    ap (λ rows. length (filter (has_this columns key) rows)) (rows_in-append list (row r ∷ []))
    ∙ length-filter_push (has_this columns key) (rows_in list) r b is

pub count_in-seal : (columns : List ℕ) (list : List Message) (sealed : Record) (n : ℕ) (key : Record) → count_in columns (list ++ seal sealed n ∷ []) key ≡ count_in columns list key
count_in-seal columns list sealed n key =
    ap (λ rows. length (filter (has_this columns key) rows)) (rows_in-append list (seal sealed n ∷ []) ∙ append-nil (rows_in list))

-- one message more is counted, where it is a record of the partition
pub count-row : (records : List Record) (list : List IdMessage) (index id : ℕ) (columns : List ℕ) (key : Record) (b : Bool) → index < length list → Row id ≡ get_or list index (Row id) → is_same_row (cells columns (row_with_id records id)) key ≡ b
    → count_in columns (read_list records (take (index + 1) list)) key ≡ count_in columns (read_list records (take index list)) key + (if b then 1 else 0)
count-row records list index id columns key b within at is =
    let front : List Message = read_list records (take index list) in
    let r : Record = row_with_id records id in
    ap (λ l. count_in columns (read_list records l) key) (take_more list index (Row id) within ∙ ap (λ m. take index list ++ m ∷ []) (sym at))
    ∙ ap (λ l. count_in columns l key) (map-append (message_with_id records) (take index list) (Row id ∷ []))
    ∙ count_in-row columns front r key b is

pub count-seal : (records : List Record) (list : List IdMessage) (index : ℕ) (sealed : Record) (n : ℕ) (columns : List ℕ) (key : Record) → index < length list → Seal sealed n ≡ get_or list index (Seal sealed n)
    → count_in columns (read_list records (take (index + 1) list)) key ≡ count_in columns (read_list records (take index list)) key
count-seal records list index sealed n columns key within at =
    let front : List Message = read_list records (take index list) in
    ap (λ l. count_in columns (read_list records l) key) (take_more list index (Seal sealed n) within ∙ ap (λ m. take index list ++ m ∷ []) (sym at))
    ∙ ap (λ l. count_in columns l key) (map-append (message_with_id records) (take index list) (Seal sealed n ∷ []))
    ∙ count_in-seal columns front sealed n key

-- one message more
pub count-more : (records : List Record) (list : List IdMessage) (index : ℕ) (m : IdMessage) (columns : List ℕ) (key : Record) (b : Bool) → index < length list → m ≡ get_or list index m → counts_row records columns key (id_in m) ≡ b
    → count_in columns (read_list records (take (index + 1) list)) key ≡ count_in columns (read_list records (take index list)) key + (if b then 1 else 0)
count-more records list index (Row id) columns key b within at is = count-row records list index id columns key b within at is
count-more records list index (Seal sealed n) columns key b within at is =
    count-seal records list index sealed n columns key within at
    ∙ (let e : count_in columns (read_list records (take index list)) key ≡ count_in columns (read_list records (take index list)) key + 0 = omega arith in e)
    ∙ ap (λ t. count_in columns (read_list records (take index list)) key + (if t then 1 else 0)) is

-- a count goes on over a list by its place
pub counted_step : (l : Listed) (place index : ℕ) (m : IdMessage) (items : List IdMessage) (columns : List ℕ) (key : Record) (b : Bool) (old new : ℕ) → items ≡ list_at l.lists place → index < length items → m ≡ get_or items index m
    → old ≡ count_in columns (read_list l.records (take index (list_at l.lists place))) key → b ≡ counts_row l.records columns key (id_in m) → new ≡ old + (if b then 1 else 0)
    → new ≡ count_in columns (read_list l.records (take (index + 1) (list_at l.lists place))) key
counted_step l place index m items columns key b old new same within at before is now =
    let list : List IdMessage = list_at l.lists place in
    now
    ∙ ap (λ n. n + (if b then 1 else 0)) before
    ∙ sym (count-more l.records list index m columns key b (subst (λ ms. index < length ms) same within) (at ∙ ap (λ ms. get_or ms index m) same) (sym is))

-- and by the record at a place
pub counted_row : (l : Listed) (place index : ℕ) (items : List IdMessage) (found : Option ℕ) (columns : List ℕ) (key : Record) (old new : ℕ) → items ≡ list_at l.lists place → index < length items → found ≡ option_and_then id_in (slice_get items index)
    → old ≡ count_in columns (read_list l.records (take index (list_at l.lists place))) key → new ≡ old + (if counts_row l.records columns key found then 1 else 0)
    → new ≡ count_in columns (read_list l.records (take (index + 1) (list_at l.lists place))) key
counted_row l place index items found columns key old new same within is before now =
    let m : IdMessage = get_or items index (Row 0) in
    counted_step l place index m items columns key (counts_row l.records columns key found) old new same within (get_or_default items index (Row 0) m within) before
    (ap (counts_row l.records columns key) (is ∙ row_there items index within)) now

length-filter-le : (p : Record → Bool) (rows : List Record) → length (filter p rows) ≤ length rows
length-filter-le p [] = omega arith
length-filter-le p (r ∷ rows) = go (p r) (length-filter-le p rows)
  where
    go : (t : Bool) → length (filter p rows) ≤ length rows → length (cond t (r ∷ filter p rows) (filter p rows)) ≤ length (r ∷ rows)
    go true le = omega arith
    go false le = omega arith

-- a count is at most the length
pub count-le : (columns : List ℕ) (list : List Message) (key : Record) → count_in columns list key ≤ length list
count-le columns list key = omega (arith, length-filter-le (has_this columns key) (rows_in list), length-rows_in-le list)

-- a count of the front of a list of the lists is small
pub count-small : (l : Listed) (place index count : ℕ) (columns : List ℕ) (key : Record) → count ≡ count_in columns (read_list l.records (take index (list_at l.lists place))) key → index < length (list_at l.lists place) → place < length l.lists → total l.lists ≤ message_limit
    → count < message_limit
count-small l place index count columns key is within there few =
    let front : List IdMessage = take index (list_at l.lists place) in
    omega (arith, is, count-le columns (read_list l.records front) key, length-map front (message_with_id l.records), length-take-le index (list_at l.lists place) (omega (arith, within)), get_or-le-sum_by length l.lists place [] there, few)

-- ---- a seal is emitted

-- the list has one
pub sealed-stays : (l : Listed) (place : ℕ) (columns : List ℕ) (key : Record) → list_any (is_seal_of key) (list_at l.lists place) ≡ true → place < length (read_lists l) → OneListBecomes l l place (with_seal columns (list_at (read_lists l) place) key)
sealed-stays l place columns key there within =
    let list : List Message = list_at (read_lists l) place in
    let same : with_seal columns list key ≡ list = ap (λ t. if t then list else list ++ seal key (count_in columns list key) ∷ []) (sym (seal-at l place key) ∙ there) in
    record {
      records = continues_itself l.records;
      lists = sym (ap (set (read_lists l) place) same ∙ set-get_or (read_lists l) place []);
    }

-- it has none, and one is put behind
pub sealed-becomes : (old new : Listed) (place : ℕ) (columns : List ℕ) (key : Record) (count : ℕ) → new.records ≡ old.records → new.lists ≡ set old.lists place (list_at old.lists place ++ Seal key count ∷ [])
    → list_any (is_seal_of key) (list_at old.lists place) ≡ false → count ≡ count_in columns (list_at (read_lists old) place) key
    → OneListBecomes old new place (with_seal columns (list_at (read_lists old) place) key)
sealed-becomes old new place columns key count same lists none counted =
    let list : List Message = list_at (read_lists old) place in
    let made : with_seal columns list key ≡ list ++ seal key (count_in columns list key) ∷ [] = ap (λ t. if t then list else list ++ seal key (count_in columns list key) ∷ []) (sym (seal-at old place key) ∙ none) in
    record {
      records = subst (λ r. Continues old.records r) (sym same) (continues_itself old.records);
      lists =
          ap (λ r. map (read_list r) new.lists) same
          ∙ ap (map (read_list old.records)) lists
          ∙ map-set (read_list old.records) old.lists place (list_at old.lists place ++ Seal key count ∷ [])
          ∙ ap (set (read_lists old) place)
          (map-append (message_with_id old.records) (list_at old.lists place) (Seal key count ∷ [])
          ∙ ap (λ l. l ++ seal key count ∷ []) (read-at old.records old.lists place)
          ∙ ap (λ n. list ++ seal key n ∷ []) counted
          ∙ sym made);
    }

-- the pool stays exact
pub sealed-exact : (old new : Listed) (place : ℕ) (columns : List ℕ) (key : Record) → place < length old.lists → IsExact old → new.records ≡ old.records → OneListBecomes old new place (with_seal columns (list_at (read_lists old) place) key) → IsExact new
sealed-exact old new place columns key within exact same becomes =
    let before : List (List Message) = read_lists old in
    let list : List Message = with_seal columns (list_at before place) key in
    let there : place < length before = omega (arith, length-map old.lists (read_list old.records), within) in
    let sizes : length new.lists ≡ length old.lists = sym (length-map new.lists (read_list new.records)) ∙ ap length becomes.lists ∙ length-set before place list ∙ length-map old.lists (read_list old.records) in
    let not_less : total old.lists ≤ total new.lists = omega (arith, total-read old, total-read new, ap total becomes.lists, total-same before place list there (with_seal-continues columns (list_at before place) key)) in
    record {
      emitted = λ q h.
          let e = exact.emitted q (subst (λ r. Has q r) same h) in (
            e.0,
            subst (λ n. e.0 < n) (sym sizes) e.1,
            subst (λ l. Has q (rows_in (list_at l e.0))) (sym becomes.lists)
                (elim (cases_eq e.0 place) [
                  | inl is ↦ subst (λ rows. Has q rows)
                      (sym (ap (λ n. rows_in (list_at (set before place list) n)) is ∙ ap rows_in (get_or-set_same before place list [] there) ∙ rows-with_seal columns (list_at before place) key ∙ ap (λ n. rows_in (list_at before n)) (sym is)))
                      e.2
                  | inr differ ↦ subst (λ l. Has q (rows_in l)) (sym (get_or-set_other before place e.0 list [] differ)) e.2
                ]),
          );
      few = omega (arith, ap length same, exact.few, not_less);
    }

pub seal-over : (old : Listed) (place : ℕ) (columns : List ℕ) (key : Record) → place < length old.lists → total old.lists ≡ message_limit → list_any (is_seal_of key) (list_at old.lists place) ≡ false
    → message_limit < total (set (read_lists old) place (with_seal columns (list_at (read_lists old) place) key))
seal-over old place columns key within full none =
    let before : List (List Message) = read_lists old in
    let list : List Message = list_at before place in
    let made : with_seal columns list key ≡ list ++ seal key (count_in columns list key) ∷ [] = ap (λ t. if t then list else list ++ seal key (count_in columns list key) ∷ []) (sym (seal-at old place key) ∙ none) in
    let there : place < length before = omega (arith, length-map old.lists (read_list old.records), within) in
    let longer : length (with_seal columns list key) ≡ length list + 1 = ap length made ∙ length-append list (seal key (count_in columns list key) ∷ []) in
    omega (arith, longer, sum_by-set length before place (with_seal columns list key) [] there, full, total-read old)
