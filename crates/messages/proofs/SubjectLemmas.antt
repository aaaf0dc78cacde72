-- What the entries of an emitted list's map say of the list.
use Rattle.std.proofs.Common.{◌≡◌, ◌||◌, ℕ, Bool, true, false, cond, Some, List, [], ◌∷◌, ◌++◌, map, is_some, refl, ap, ◌∙◌, sym, true≢false, not, Option, if◌then◌else◌}
use Rattle.std.specs.List.{list_any}
use Rattle.std.specs.Map.{keys_of, lookup}
use Rattle.std.proofs.lemmas.List.{map-append}
use Rattle.indexmap.specs.IndexMap.{insert_entry}
use Rattle.blz_value.specs.Record.{Row as Record}
use Rattle.messages.specs.declared.message.Message.{Message as IdMessage}
use Rattle.messages.specs.declared.message.Message.TheVariants as message
use Rattle.messages.specs.EmittedIds.{is_row_with, is_seal_of, with_id}
use Rattle.messages.specs.Subject.{message_about, message_of, is_same_subject}
use Rattle.messages.specs.declared.subject.Subject.{Subject}
use Rattle.messages.specs.declared.subject.Subject.TheVariants.{Row, Partition}

-- ---- look-ups

found_any : (test : Subject → Bool) (entries : List (Subject × ℕ)) → is_some (lookup test entries) ≡ list_any test (keys_of entries)
found_any test [] = refl
found_any test (e ∷ entries) = by (test e.0) (found_any test entries)
  where
    by : (b : Bool) → is_some (lookup test entries) ≡ list_any test (keys_of entries) → is_some (cond b (Some e.1) (lookup test entries)) ≡ (b || list_any test (keys_of entries))
    by true rest = refl
    by false rest = rest

row_about : (id : ℕ) (s : Subject) (count : ℕ) → is_same_subject (Row id) s ≡ is_row_with id (message_about s count)
row_about id (Row other) count = refl
row_about id (Partition key) count = refl

seal_about : (key : Record) (s : Subject) (count : ℕ) → is_same_subject (Partition key) s ≡ is_seal_of key (message_about s count)
seal_about key (Row id) count = refl
seal_about key (Partition other) count = refl

any_about : (test : Subject → Bool) (says : IdMessage → Bool) (entries : List (Subject × ℕ)) → ((s : Subject) (count : ℕ) → test s ≡ says (message_about s count)) → list_any test (keys_of entries) ≡ list_any says (map message_of entries)
any_about test says [] alike = refl
any_about test says (e ∷ entries) alike = λ i. alike e.0 e.1 i || any_about test says entries alike i

row_keys : (id : ℕ) (entries : List (Subject × ℕ)) → list_any (is_same_subject (Row id)) (keys_of entries) ≡ list_any (is_row_with id) (map message_of entries)
row_keys id entries = any_about (is_same_subject (Row id)) (is_row_with id) entries (row_about id)

seal_keys : (key : Record) (entries : List (Subject × ℕ)) → list_any (is_same_subject (Partition key)) (keys_of entries) ≡ list_any (is_seal_of key) (map message_of entries)
seal_keys key entries = any_about (is_same_subject (Partition key)) (is_seal_of key) entries (seal_about key)

pub row_test : (id : ℕ) (entries : List (Subject × ℕ)) (now : List IdMessage) → map message_of entries ≡ now → is_some (lookup (is_same_subject (Row id)) entries) ≡ list_any (is_row_with id) now
row_test id entries now is = found_any (is_same_subject (Row id)) entries ∙ row_keys id entries ∙ ap (list_any (is_row_with id)) is

pub seal_test : (key copy : Record) (entries : List (Subject × ℕ)) (now : List IdMessage) → copy ≡ key → map message_of entries ≡ now → is_some (lookup (is_same_subject (Partition copy)) entries) ≡ list_any (is_seal_of key) now
seal_test key copy entries now same is =
    found_any (is_same_subject (Partition copy)) entries
    ∙ ap (λ k. list_any (is_same_subject (Partition k)) (keys_of entries)) same
    ∙ seal_keys key entries
    ∙ ap (list_any (is_seal_of key)) is

-- ---- one message more

new_last : (s : Subject) (count : ℕ) (entries : List (Subject × ℕ)) → list_any (is_same_subject s) (keys_of entries) ≡ false → insert_entry is_same_subject entries s count ≡ entries ++ (s, count) ∷ []
new_last s count [] none = refl
new_last s count (e ∷ entries) none = by (is_same_subject s e.0) none (new_last s count entries)
  where
    by : (b : Bool) → (b || list_any (is_same_subject s) (keys_of entries)) ≡ false → (list_any (is_same_subject s) (keys_of entries) ≡ false → insert_entry is_same_subject entries s count ≡ entries ++ (s, count) ∷ [])
        → (if b then (e.0, count) ∷ entries else e ∷ insert_entry is_same_subject entries s count) ≡ e ∷ (entries ++ (s, count) ∷ [])
    by true none rest = absurd (true≢false none)
    by false none rest = ap (λ l. e ∷ l) (rest none)

-- a message about what nothing in the list is about goes last
pushed : (old new : List (Subject × ℕ)) (before : List IdMessage) (s : Subject) (count : ℕ) → map message_of old ≡ before → list_any (is_same_subject s) (keys_of old) ≡ false → new ≡ insert_entry is_same_subject old s count
    → map message_of new ≡ before ++ message_about s count ∷ []
pushed old new before s count is none inserted =
    ap (map message_of) (inserted ∙ new_last s count old none)
    ∙ map-append message_of old ((s, count) ∷ [])
    ∙ ap (λ l. l ++ message_about s count ∷ []) is

-- the count of a record says nothing
no_count : (id : ℕ) (s : Subject) (m n : ℕ) → is_same_subject (Row id) s ≡ true → message_about s m ≡ message_about s n
no_count id (Row other) m n same = refl
no_count id (Partition key) m n same = absurd (true≢false (sym same))

-- a record that stands there stays where it is
known_stays : (id : ℕ) (entries : List (Subject × ℕ)) → list_any (is_same_subject (Row id)) (keys_of entries) ≡ true → map message_of (insert_entry is_same_subject entries (Row id) 0) ≡ map message_of entries
known_stays id [] there = absurd (true≢false (sym there))
known_stays id (e ∷ entries) there = go (is_same_subject (Row id) e.0) refl there (known_stays id entries)
  where
    go : (b : Bool) → is_same_subject (Row id) e.0 ≡ b → (b || list_any (is_same_subject (Row id)) (keys_of entries)) ≡ true
        → (list_any (is_same_subject (Row id)) (keys_of entries) ≡ true → map message_of (insert_entry is_same_subject entries (Row id) 0) ≡ map message_of entries)
        → map message_of (if b then (e.0, 0) ∷ entries else e ∷ insert_entry is_same_subject entries (Row id) 0) ≡ message_of e ∷ map message_of entries
    go true same there rest = ap (λ m. m ∷ map message_of entries) (no_count id e.0 0 e.1 same)
    go false same there rest = ap (λ l. message_of e ∷ l) (rest there)

-- a record goes last, unless it stands there
pub row_added : (old new : List (Subject × ℕ)) (before : List IdMessage) (id : ℕ) → map message_of old ≡ before → new ≡ insert_entry is_same_subject old (Row id) 0 → map message_of new ≡ with_id before id
row_added old new before id is inserted = go (list_any (is_row_with id) before) refl
  where
    here : list_any (is_same_subject (Row id)) (keys_of old) ≡ list_any (is_row_with id) before
    here = row_keys id old ∙ ap (list_any (is_row_with id)) is

    go : (b : Bool) → list_any (is_row_with id) before ≡ b → map message_of new ≡ with_id before id
    go true there =
        ap (map message_of) inserted
        ∙ known_stays id old (here ∙ there)
        ∙ is
        ∙ sym (ap (λ b. if b then before else before ++ message.Row id ∷ []) there)
    go false none = pushed old new before (Row id) 0 is (here ∙ none) inserted ∙ sym (ap (λ b. if b then before else before ++ message.Row id ∷ []) none)

-- it is new where the map had nothing under it
pub is_new_row : (id : ℕ) (old : List (Subject × ℕ)) (before : List IdMessage) (had : Option ℕ) (is_new : Bool) → map message_of old ≡ before → had ≡ lookup (is_same_subject (Row id)) old → is_some had ≡ not is_new → is_new ≡ not (list_any (is_row_with id) before)
is_new_row id old before had is_new is was says = twice is_new ∙ ap not (sym says ∙ ap is_some was ∙ row_test id old before is)
  where
    twice : (b : Bool) → b ≡ not (not b)
    twice true = refl
    twice false = refl

-- a record that is new goes last
pub new_goes_last : (list new : List IdMessage) (id : ℕ) (is_new : Bool) → is_new ≡ not (list_any (is_row_with id) list) → is_new ≡ true → new ≡ with_id list id → new ≡ list ++ message.Row id ∷ []
new_goes_last list new id is_new says so is = is ∙ ap (λ b. if b then list else list ++ message.Row id ∷ []) (turned (list_any (is_row_with id) list) (sym says ∙ so))
  where
    turned : (b : Bool) → not b ≡ true → b ≡ false
    turned true e = sym e
    turned false e = refl

pub seal_pushed : (old new : List (Subject × ℕ)) (before : List IdMessage) (key : Record) (count : ℕ) → map message_of old ≡ before → list_any (is_seal_of key) before ≡ false → new ≡ insert_entry is_same_subject old (Partition key) count
    → map message_of new ≡ before ++ message.Seal key count ∷ []
seal_pushed old new before key count is none inserted = pushed old new before (Partition key) count is (seal_keys key old ∙ ap (list_any (is_seal_of key)) is ∙ none) inserted
