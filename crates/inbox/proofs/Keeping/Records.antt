-- The waiting records with one more stand for what was heard.
use Rattle.std.proofs.Common.{◌≡◌, refl, ap, sym, subst, ◌∙◌, ℕ, zero, suc, ◌+◌, ◌<◌, ◌&&◌, Bool, true, false, not, cond, Option, Some, None, List, [], ◌∷◌, ◌++◌, length, filter, append-nil, length-append, arith, inl, inr, ◌⊎◌, get_or}
use Rattle.std.specs.List.{list_any}
use Rattle.std.specs.Option.{option_map_or, is_some}
use Rattle.std.proofs.lemmas.Bool.{cases_Bool, cases_lt}
use Rattle.std.proofs.lemmas.List.{map-append}
use Rattle.std.proofs.lemmas.List.Elements.{filter-append}
use Rattle.std.proofs.Math.Seq.{get_or-append_seam}
use Rattle.blz_value.specs.Members.{Has}
use Rattle.blz_value.specs.Record.{Row}
use Rattle.blz_value.proofs.Membership.{Has-append_left, Has-append_right, Has-append_cases}
use Rattle.topo_forms.specs.Messages.{row, seal, is_same_row}
use Rattle.messages.specs.Messages.{Pair, Entry, is_same_entry, with_new, firsts}
use Rattle.inbox.specs.Instances.{Instance, port_of_feed, entries_of, key_of_entry, is_of_key}
use Rattle.blz_pool.specs.Entries.{EntryId, row_with_id, entry_with_id, entries_with_ids}
use Rattle.messages.specs.Log.{AreGiven, is_same_entry_id}
use Rattle.inbox.specs.Code.Places.{places_of}
use Rattle.inbox.specs.Code.Waiting.{KeepsEntry, has_key}
use Rattle.inbox.specs.Code.Heard.{WaitingHeard, is_place_of}
use Rattle.inbox.specs.declared.waiting.Waiting.{Waiting}
use Rattle.messages.proofs.LogLemmas.{IsOneId, is_same_entry_id-is, is_same_entry_id-itself, with_new-with_ids}
use Rattle.messages.proofs.MessagesLemmas.{Has-from_with_new, firsts-more, is_same_entry-is, is_same_entry-itself}
use Rattle.inbox.proofs.TimestepLemmas.Whole.{entries_of-append}
use Rattle.inbox.proofs.Keeping.Feeds.{same_row-turned}

-- ---- a list with one element more

get_or-front : {X : Type 0} (xs : List X) (x : X) (k : ℕ) (d : X) → k < length xs → get_or (xs ++ x ∷ []) k d ≡ get_or xs k d
get_or-front [] x k d below = absurd (omega arith)
get_or-front (y ∷ ys) x zero d below = refl
get_or-front (y ∷ ys) x (suc k) d below = get_or-front ys x k d (omega arith)

get_or-last : {X : Type 0} (xs : List X) (x d : X) → get_or (xs ++ x ∷ []) (length xs) d ≡ x
get_or-last xs x d = get_or-append_seam xs x [] d

length-last : {X : Type 0} (xs : List X) (x : X) → length (xs ++ x ∷ []) ≡ length xs + 1
length-last xs x = length-append xs (x ∷ [])

-- ---- a seal changes nothing

pub records-seal : (i : Instance) (records : List Row) (waits : Entry → Bool) (heard : List Pair) (feed : ℕ) (k : Row) (n : ℕ) (w : Waiting) → WaitingHeard i records waits heard w → WaitingHeard i records waits (heard ++ (feed, seal k n) ∷ []) w
records-seal i records waits heard feed k n w s = record {
  given = s.given;
  log = s.log ∙ ap (firsts is_same_entry) (sym (entries_of-append i heard ((feed, seal k n) ∷ []) ∙ append-nil (entries_of i heard)));
  within = s.within;
  placed = s.placed;
  all = s.all;
  held = s.held;
}

-- ---- one record more

module _ (i : Instance) (records : List Row) (waits : Entry → Bool) (heard : List Pair) (feed id : ℕ) (old new : Waiting) (key : Option Row) (w : Bool)
    (s : WaitingHeard i records waits heard old) (k : KeepsEntry old new (port_of_feed i feed, id) key w)
    (within : id < length records) (one : IsOneId records id)
    (of : key ≡ key_of_entry i (port_of_feed i feed, row_with_id records id))
    (test : (is_some key && w) ≡ waits (port_of_feed i feed, row_with_id records id)) where
  entry : EntryId
  entry = (port_of_feed i feed, id)

  entries-more : entries_of i (heard ++ (feed, row (row_with_id records id)) ∷ []) ≡ entries_of i heard ++ (port_of_feed i feed, row_with_id records id) ∷ []
  entries-more = entries_of-append i heard ((feed, row (row_with_id records id)) ∷ [])

  log-more : entries_with_ids records new.log ≡ firsts is_same_entry (entries_of i (heard ++ (feed, row (row_with_id records id)) ∷ []))
  log-more =
      let e : EntryId = (port_of_feed i feed, id) in
      ap (entries_with_ids records) k.log
      ∙ with_new-with_ids records old.log e one s.given
      ∙ ap (λ l. with_new is_same_entry l (entry_with_id records e)) s.log
      ∙ sym (firsts-more is_same_entry is_same_entry-is is_same_entry-itself (entries_of i heard) (entry_with_id records e))
      ∙ ap (firsts is_same_entry) (sym entries-more)

  given-more : AreGiven records new.log
  given-more x h =
      let e : EntryId = (port_of_feed i feed, id) in
      elim (Has-from_with_new is_same_entry_id is_same_entry_id-is is_same_entry_id-itself x e old.log (subst (λ l. Has x l) k.log h)) [
        | inl old_one ↦ s.given x old_one
        | inr is ↦ subst (λ (y : EntryId). y.1 < length records) is within
      ]

  -- where it was heard before, nothing changes
  kept : list_any (is_same_entry_id (port_of_feed i feed, id)) old.log ≡ true → WaitingHeard i records waits (heard ++ (feed, row (row_with_id records id)) ∷ []) new
  kept there =
      let same_log : new.log ≡ old.log = k.log ∙ ap (λ b. cond b old.log (old.log ++ (port_of_feed i feed, id) ∷ [])) there in
      let same_places : (q : Row) → places_of new.places q ≡ places_of old.places q = λ q.
      k.places q ∙ ap (λ b. cond (not b && has_key key q) (places_of old.places q ++ length old.log ∷ []) (places_of old.places q)) there in
      record {
        given = given-more;
        log = log-more;
        within = λ q place h. subst (λ l. place < length l) (sym same_log) (s.within q place (subst (λ l. Has place l) (same_places q) h));
        placed = λ q place h. ap (λ l. is_place_of i records l q place) same_log ∙ s.placed q place (subst (λ l. Has place l) (same_places q) h);
        all = λ q place below e. subst (λ l. Has place l) (sym (same_places q)) (s.all q place (subst (λ l. place < length l) same_log below) (ap (λ l. is_place_of i records l q place) (sym same_log) ∙ e));
        held = k.held ∙ ap (λ b. cond (not b && (is_some key && w)) (old.held + 1) old.held) there ∙ s.held ∙ ap (λ l. length (filter waits (entries_with_ids records l))) (sym same_log);
      }

  own_key : (q : Row) → is_of_key i q (port_of_feed i feed, row_with_id records id) ≡ has_key key q
  own_key q = ap (λ o. option_map_or (is_same_row q) o false) (sym of) ∙ by key
    where
      by : (o : Option Row) → option_map_or (is_same_row q) o false ≡ has_key o q
      by None = refl
      by (Some own) = same_row-turned q own

  count-last : (b : Bool) → waits (port_of_feed i feed, row_with_id records id) ≡ b → length (filter waits (entries_with_ids records (old.log ++ (port_of_feed i feed, id) ∷ []))) ≡ cond b (length (filter waits (entries_with_ids records old.log)) + 1) (length (filter waits (entries_with_ids records old.log)))
  count-last b e =
      let e0 : EntryId = (port_of_feed i feed, id) in
      let r : Entry = (port_of_feed i feed, row_with_id records id) in
      ap (λ l. length (filter waits l)) (map-append (entry_with_id records) old.log (e0 ∷ []))
      ∙ ap (length {A = Entry}) (filter-append waits (entries_with_ids records old.log) (r ∷ []))
      ∙ ap (λ c. length (filter waits (entries_with_ids records old.log) ++ cond c (r ∷ []) [])) e
      ∙ elim b as (λ c. length (filter waits (entries_with_ids records old.log) ++ cond c (r ∷ []) []) ≡ cond c (length (filter waits (entries_with_ids records old.log)) + 1) (length (filter waits (entries_with_ids records old.log)))) [
        | true ↦ length-last (filter waits (entries_with_ids records old.log)) r
        | false ↦ ap (length {A = Entry}) (append-nil (filter waits (entries_with_ids records old.log)))
      ]

  -- where it is new, it goes last
  put : list_any (is_same_entry_id (port_of_feed i feed, id)) old.log ≡ false → WaitingHeard i records waits (heard ++ (feed, row (row_with_id records id)) ∷ []) new
  put absent =
      let e0 : EntryId = (port_of_feed i feed, id) in
      let d : EntryId = (0, 0) in
      let new_log : new.log ≡ old.log ++ e0 ∷ [] = k.log ∙ ap (λ b. cond b old.log (old.log ++ e0 ∷ [])) absent in
      let count : length new.log ≡ length old.log + 1 = ap (length {A = EntryId}) new_log ∙ length-last old.log e0 in
      let now : (q : Row) → places_of new.places q ≡ cond (has_key key q) (places_of old.places q ++ length old.log ∷ []) (places_of old.places q) = λ q.
      k.places q ∙ ap (λ b. cond (not b && has_key key q) (places_of old.places q ++ length old.log ∷ []) (places_of old.places q)) absent in
      let front : (q : Row) (place : ℕ) → place < length old.log → is_place_of i records new.log q place ≡ is_place_of i records old.log q place = λ q place below.
      ap (λ (l : List EntryId). is_of_key i q (entry_with_id records (get_or l place d))) new_log ∙ ap (λ (x : EntryId). is_of_key i q (entry_with_id records x)) (get_or-front old.log e0 place d below) in
      let last : (q : Row) → is_place_of i records new.log q (length old.log) ≡ has_key key q = λ q.
      ap (λ (l : List EntryId). is_of_key i q (entry_with_id records (get_or l (length old.log) d))) new_log ∙ ap (λ (x : EntryId). is_of_key i q (entry_with_id records x)) (get_or-last old.log e0 d) ∙ own_key q in
      record {
        given = given-more;
        log = log-more;
        within = λ q place h. elim (among q place (has_key key q) refl (subst (λ l. Has place l) (now q) h)) [
          | inl old_one ↦ (let b = s.within q place old_one in omega (arith, b, count))
          | inr is ↦ (let at = is.0 in omega (arith, at, count))
        ];
        placed = λ q place h. elim (among q place (has_key key q) refl (subst (λ l. Has place l) (now q) h)) [
          | inl old_one ↦ front q place (s.within q place old_one) ∙ s.placed q place old_one
          | inr is ↦ subst (λ n. is_place_of i records new.log q n ≡ true) is.0 (last q ∙ is.1)
        ];
        all = λ q place below e. elim (cases_lt place (length old.log)) [
          | inl less ↦ subst (λ l. Has place l) (sym (now q)) (stays q place (has_key key q) (s.all q place less (sym (front q place less) ∙ e)))
          | inr past ↦
              let at : length old.log ≡ place = omega (arith, below, count, past) in
              let has : has_key key q ≡ true = sym (last q) ∙ subst (λ n. is_place_of i records new.log q n ≡ true) (sym at) e in
              subst (λ l. Has place l) (sym (now q ∙ ap (λ b. cond b (places_of old.places q ++ length old.log ∷ []) (places_of old.places q)) has))
              (Has-append_right place (places_of old.places q) (length old.log ∷ []) (inl at))
        ];
        held =
            k.held ∙ ap (λ b. cond (not b && (is_some key && w)) (old.held + 1) old.held) absent
            ∙ ap (λ b. cond b (old.held + 1) old.held) test
            ∙ ap (λ (n : ℕ). cond (waits (port_of_feed i feed, row_with_id records id)) (n + 1) n) s.held
            ∙ sym (ap (λ l. length (filter waits (entries_with_ids records l))) new_log ∙ count-last (waits (port_of_feed i feed, row_with_id records id)) refl);
      }
    where
      among : (q : Row) (place : ℕ) (b : Bool) → has_key key q ≡ b → Has place (cond b (places_of old.places q ++ length old.log ∷ []) (places_of old.places q)) → Has place (places_of old.places q) ⊎ ((length old.log ≡ place) × (has_key key q ≡ true))
      among q place true e h = elim (Has-append_cases place (places_of old.places q) (length old.log ∷ []) h) [ inl a ↦ inl a | inr b ↦ elim b [ inl is ↦ inr (is, e) | inr none ↦ absurd none ] ]
      among q place false e h = inl h

      stays : (q : Row) (place : ℕ) (b : Bool) → Has place (places_of old.places q) → Has place (cond b (places_of old.places q ++ length old.log ∷ []) (places_of old.places q))
      stays q place true h = Has-append_left place (places_of old.places q) (length old.log ∷ []) h
      stays q place false h = h

  pub records-row : WaitingHeard i records waits (heard ++ (feed, row (row_with_id records id)) ∷ []) new
  records-row = elim (cases_Bool (list_any (is_same_entry_id (port_of_feed i feed, id)) old.log)) [ inl there ↦ kept there | inr absent ↦ put absent ]

-- ---- an entry is kept

pub keeps_known : (old new : Waiting) (entry : EntryId) (key : Option Row) (w : Bool) → new.log ≡ with_new is_same_entry_id old.log entry → list_any (is_same_entry_id entry) old.log ≡ true
    → ((k : Row) → places_of new.places k ≡ places_of old.places k) → new.held ≡ old.held → KeepsEntry old new entry key w
keeps_known old new entry key w log there places held = record {
  log = log;
  places = λ k. places k ∙ sym (ap (λ b. cond (not b && has_key key k) (places_of old.places k ++ length old.log ∷ []) (places_of old.places k)) there);
  held = held ∙ sym (ap (λ b. cond (not b && (is_some key && w)) (old.held + 1) old.held) there);
}

pub keeps_new : (old new : Waiting) (entry : EntryId) (key : Option Row) (w : Bool) (place : ℕ) → new.log ≡ with_new is_same_entry_id old.log entry → list_any (is_same_entry_id entry) old.log ≡ false → place ≡ length old.log
    → ((k : Row) → places_of new.places k ≡ cond (has_key key k) (places_of old.places k ++ place ∷ []) (places_of old.places k)) → new.held ≡ cond (is_some key && w) (old.held + 1) old.held → KeepsEntry old new entry key w
keeps_new old new entry key w place log absent at places held = record {
  log = log;
  places = λ k.
      places k ∙ ap (λ (n : ℕ). cond (has_key key k) (places_of old.places k ++ n ∷ []) (places_of old.places k)) at
      ∙ sym (ap (λ b. cond (not b && has_key key k) (places_of old.places k ++ length old.log ∷ []) (places_of old.places k)) absent);
  held = held ∙ sym (ap (λ b. cond (not b && (is_some key && w)) (old.held + 1) old.held) absent);
}
