-- In a pool that gave the ids, pairs of a port and a record are told apart by their ids.
use Rattle.std.proofs.Common.{◌≡◌, ◌≢◌, refl, ap, sym, subst, ◌∙◌, ℕ, ◌+◌, ◌<◌, ◌==◌, ◌&&◌, ◌||◌, Bool, true, false, cond, List, [], ◌∷◌, ◌++◌, length, length-append, rules, arith, inl, inr}
use Rattle.std.specs.List.{list_any}
use Rattle.std.proofs.lemmas.List.Folds.{list_any-append}
use Rattle.std.proofs.lemmas.List.Quantifiers.{all_pairs_push}
use Rattle.std.specs.Bool.{IsTrue}
use Rattle.std.specs.Prelude.{◌↔◌}
use Rattle.std.proofs.lemmas.Bool.{cases_Bool, eqb-true, eq-eqb, and_parts, and_from, cases_lt}
use Rattle.std.proofs.lemmas.List.{map-append}
use Rattle.blz_pool.specs.Pool.{IsPool}
use Rattle.blz_value.specs.Members.{Has}
use Rattle.blz_value.specs.Record.{Row}
use Rattle.blz_value.proofs.Membership.{Has-get_or, any_from_Has}
use Rattle.blz_value.specs.Message.{is_same_row}
use Rattle.blz_value.proofs.Booleans.{same_truth}
use Rattle.messages.specs.Messages.{is_same_entry, with_new}
use Rattle.blz_pool.specs.Entries.{EntryId, row_with_id, entry_with_id, entries_with_ids}
use Rattle.messages.specs.Log.{is_same_entry_id, AreGiven, IsLog}
use Rattle.messages.specs.Known.{is_known, KnowsAlso, IsKept}
use Rattle.messages.proofs.NumbersLemmas.{none_set}
use Rattle.messages.proofs.MessagesLemmas.{is_same_row-is, is_same_row-itself, any-from_same, same-from_any}

-- ---- the test of pairs is equality

numbers_same : (a b : EntryId) → a.0 ≡ b.0 → a.1 ≡ b.1 → a ≡ b
numbers_same a b p q = let f : ℕ → ℕ → EntryId = λ m n. (m, n) in ap (λ m. f m a.1) p ∙ ap (λ n. f b.0 n) q

pub is_same_entry_id-is : (a b : EntryId) → is_same_entry_id a b ≡ true → a ≡ b
is_same_entry_id-is a b e = numbers_same a b (eqb-true a.0 b.0 (and_parts (a.0 == b.0) (a.1 == b.1) e).0) (eqb-true a.1 b.1 (and_parts (a.0 == b.0) (a.1 == b.1) e).1)

pub is_same_entry_id-itself : (a : EntryId) → is_same_entry_id a a ≡ true
is_same_entry_id-itself a = and_from (a.0 == a.0) (a.1 == a.1) (eq-eqb a.0 a.0 refl) (eq-eqb a.1 a.1 refl)

-- ---- records by their ids

-- no other id has the record of this one
abbrev pub IsOneId : List Row → (id : ℕ) → Type 0
IsOneId records id = (other : ℕ) → other < length records → row_with_id records other ≡ row_with_id records id → other ≡ id

pub one_id : (records : List Row) → IsPool records → (id : ℕ) → id < length records → IsOneId records id
one_id records pool id within other below same = elim (cases_lt other id) [
  | inl less ↦ absurd (pool.distinct other id [] less within same)
  | inr ge ↦ elim (cases_lt id other) [
    | inl more ↦ absurd (pool.distinct id other [] more below (sym same))
    | inr le ↦ omega arith
  ]
]

pub same_row-same_id : (records : List Row) (id other : ℕ) → IsOneId records id → other < length records → is_same_row (row_with_id records id) (row_with_id records other) ≡ (id == other)
same_row-same_id records id other one below =
    same_truth (is_same_row (row_with_id records id) (row_with_id records other)) (id == other)
    (λ e. eq-eqb id other (sym (one other below (sym (is_same_row-is (row_with_id records id) (row_with_id records other) e)))))
    (λ e. subst (λ k. is_same_row (row_with_id records id) (row_with_id records k) ≡ true) (eqb-true id other e) (is_same_row-itself (row_with_id records id)))

-- so a pair stands in a list exactly where the record at the port does
pub any-with_ids : (records : List Row) (entry : EntryId) (log : List EntryId) → IsOneId records entry.1 → AreGiven records log
    → list_any (is_same_entry (entry_with_id records entry)) (entries_with_ids records log) ≡ list_any (is_same_entry_id entry) log
any-with_ids records entry [] one given = refl
any-with_ids records entry (x ∷ log) one given =
    ap (λ b. (entry.0 == x.0 && b) || list_any (is_same_entry (entry_with_id records entry)) (entries_with_ids records log)) (same_row-same_id records entry.1 x.1 one (given x (inl refl)))
    ∙ ap (λ b. is_same_entry_id entry x || b) (any-with_ids records entry log one (λ e h. given e (inr h)))

pub with_new-with_ids : (records : List Row) (log : List EntryId) (entry : EntryId) → IsOneId records entry.1 → AreGiven records log
    → entries_with_ids records (with_new is_same_entry_id log entry) ≡ with_new is_same_entry (entries_with_ids records log) (entry_with_id records entry)
with_new-with_ids records log entry one given =
    by (list_any (is_same_entry_id entry) log)
    ∙ ap (λ b. cond b (entries_with_ids records log) (entries_with_ids records log ++ entry_with_id records entry ∷ [])) (sym (any-with_ids records entry log one given))
  where
    by : (b : Bool) → entries_with_ids records (cond b log (log ++ entry ∷ [])) ≡ cond b (entries_with_ids records log) (entries_with_ids records log ++ entry_with_id records entry ∷ [])
    by true = refl
    by false = map-append (entry_with_id records) log (entry ∷ [])

pub appended_records : (records : List Row) (old new : List EntryId) (entry : EntryId) → new ≡ with_new is_same_entry_id old entry → IsPool records → AreGiven records old → entry.1 < length records
    → entries_with_ids records new ≡ with_new is_same_entry (entries_with_ids records old) (entry_with_id records entry)
appended_records records old new entry is pool given within =
    ap (entries_with_ids records) is ∙ with_new-with_ids records old entry (one_id records pool entry.1 within) given

-- ---- what is known

once_more : (entries : List EntryId) (entry : EntryId) → IsLog entries → list_any (is_same_entry_id entry) entries ≡ false → IsLog (entries ++ entry ∷ [])
once_more entries entry once absent =
    all_pairs_push (λ a b. a ≢ b) entries entry once (λ k d below same.
    let there : Has entry entries = subst (λ (e : EntryId). Has e entries) same (Has-get_or entries k d below) in
    let found : true ≡ false = sym (any_from_Has (is_same_entry_id entry) entry entries there (is_same_entry_id-itself entry)) ∙ absent in
    cc)

pub known-more : (known new : List (List ℕ)) (entries : List EntryId) (entry : EntryId) (number : ℕ) → IsKept known entries → list_any (is_same_entry_id entry) entries ≡ false → number ≡ entry.1
    → KnowsAlso entry.0 number known new → IsKept new (entries ++ entry ∷ [])
known-more known new entries entry number kept absent same also = record {
  once = once_more entries entry kept.once absent;
  knows = λ q.
      also q.0 q.1
      ∙ ap (λ k. (q.0 == entry.0 && q.1 == k) || is_known known q.0 q.1) same
      ∙ ap (λ b. is_same_entry_id q entry || b) (kept.knows q)
      ∙ or_last (is_same_entry_id q entry) (list_any (is_same_entry_id q) entries)
      ∙ sym (list_any-append (is_same_entry_id q) entries (entry ∷ []));
}
  where
    or_last : (a b : Bool) → (a || b) ≡ (b || (a || false))
    or_last true true = refl
    or_last true false = refl
    or_last false true = refl
    or_last false false = refl

pub none-kept : IsKept [] []
none-kept = record { once = search rules; knows = λ q. none_set q.1 }

-- ---- one more

pub with_new-known : (log : List EntryId) (entry : EntryId) → list_any (is_same_entry_id entry) log ≡ true → log ≡ with_new is_same_entry_id log entry
with_new-known log entry there = sym (ap (λ b. cond b log (log ++ entry ∷ [])) there)

pub with_new-more : (log new : List EntryId) (entry : EntryId) → list_any (is_same_entry_id entry) log ≡ false → new ≡ log ++ entry ∷ [] → new ≡ with_new is_same_entry_id log entry
with_new-more log new entry absent is = is ∙ sym (ap (λ b. cond b log (log ++ entry ∷ [])) absent)

pub has_known : (log : List EntryId) (entry : EntryId) → list_any (is_same_entry_id entry) log ≡ true → Has entry log
has_known log entry e = same-from_any is_same_entry_id is_same_entry_id-is is_same_entry_id-itself entry log e

pub has_not : (log : List EntryId) (entry : EntryId) → list_any (is_same_entry_id entry) log ≡ false → ¬ Has entry log
has_not log entry absent h = (let found : true ≡ false = sym (any-from_same is_same_entry_id is_same_entry_id-is is_same_entry_id-itself entry log h) ∙ absent in cc)

-- ---- whether it was new

never : (f : Bool) → f ≡ false → IsTrue f → ⊥
never true e b = cc
never false e b = search (rules, b)

always : (f : Bool) → f ≡ true → IsTrue f
always true e = search rules
always false e = cc

pub known_from : (log : List EntryId) (entry : EntryId) (f : Bool) → (IsTrue f ↔ (¬ Has entry log)) → f ≡ false → list_any (is_same_entry_id entry) log ≡ true
known_from log entry f iff is = elim (cases_Bool (list_any (is_same_entry_id entry) log)) [
  | inl there ↦ there
  | inr absent ↦ absurd (never f is (iff.1 (has_not log entry absent)))
]

pub lacks_from : (log : List EntryId) (entry : EntryId) (f : Bool) → (IsTrue f ↔ (¬ Has entry log)) → f ≡ true → list_any (is_same_entry_id entry) log ≡ false
lacks_from log entry f iff is = elim (cases_Bool (list_any (is_same_entry_id entry) log)) [
  | inl there ↦ absurd (iff.0 (always f is) (has_known log entry there))
  | inr absent ↦ absent
]

pub length-new : (log new : List EntryId) (entry : EntryId) → list_any (is_same_entry_id entry) log ≡ false → new ≡ with_new is_same_entry_id log entry → length log + 1 ≡ length new
length-new log new entry absent is =
    sym (ap (length {A = EntryId}) (is ∙ ap (λ b. cond b log (log ++ entry ∷ [])) absent) ∙ length-append log (entry ∷ []))
