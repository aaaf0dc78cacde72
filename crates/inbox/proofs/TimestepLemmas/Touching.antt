-- A partition becomes whole only with a batch that has a seal or a record of it.
use Rattle.std.proofs.Common.{◌≡◌, refl, ap, sym, ◌∙◌, ℕ, ◌==◌, ◌&&◌, ◌||◌, nat_le, Bool, true, false, cond, List, [], ◌∷◌, ◌++◌, length, map, filter, append-nil, inl, inr, Some}
use Rattle.std.specs.List.{list_any, list_all}
use Rattle.std.specs.Option.{option_map, unwrap_or}
use Rattle.std.proofs.lemmas.List.Folds.{list_any-append}
use Rattle.std.proofs.lemmas.Bool.{and_parts, false_from_ne_true}
use Rattle.std.proofs.lemmas.List.Elements.{filter-append}
use Rattle.blz_value.specs.Members.{Has}
use Rattle.blz_value.specs.Record.{Row}
use Rattle.blz_value.specs.Sets.{set_of}
use Rattle.blz_value.proofs.Membership.{any_from_Has, Has-from_any, Has-from_filter}
use Rattle.blz_value.proofs.Booleans.{or_false}
use Rattle.topo_forms.specs.Messages.{Message, row, seal, is_same_row, row_in}
use Rattle.messages.specs.Messages.{Pair, Batch, Entry}
use Rattle.inbox.specs.Instances.{Instance, port_of_feed, carrying_feeds, entry_of, entries_of, is_of_key}
use Rattle.inbox.specs.Timesteps.{is_seal_within, from_feed, count_heard_from, is_whole_from, is_some_feed, is_whole}
use Rattle.inbox.proofs.TimestepLemmas.Whole.{entries_of-append, Has-from_filter_map, BecomesWhole}

-- a message is a seal or a record of a partition
abbrev pub is_message_of : Instance → (key : Row) → (feed : ℕ) → Message → Bool
is_message_of i key feed (row r) = is_of_key i key (port_of_feed i feed, r)
is_message_of i key feed (seal k count) = is_same_row k key

abbrev pub is_touching : Instance → (key : Row) → Pair → Bool
is_touching i key pair = is_message_of i key pair.0 pair.1

-- where none passes, nothing is chosen
pub none_of : {X : Type 0} (p : X → Bool) (xs : List X) → ((x : X) → Has x xs → p x ≡ false) → filter p xs ≡ []
none_of p [] none = refl
none_of p (x ∷ xs) none = ap (λ b. cond b (x ∷ filter p xs) (filter p xs)) (none x (inl refl)) ∙ none_of p xs (λ y h. none y (inr h))

entry_touches : (i : Instance) (key : Row) (feed : ℕ) (message : Message) (entry : Entry) → option_map (λ r. (port_of_feed i feed, r)) (row_in message) ≡ Some entry → is_of_key i key entry ≡ true → is_message_of i key feed message ≡ true
entry_touches i key feed (seal k n) entry e of = cc
entry_touches i key feed (row r) entry e of =
    let is : (port_of_feed i feed, r) ≡ entry = ap (λ o. unwrap_or o (port_of_feed i feed, r)) e in
    ap (is_of_key i key) is ∙ of

seals_touch : (i : Instance) (key : Row) (most feed : ℕ) (message : Message) → is_seal_within key most message ≡ true → is_message_of i key feed message ≡ true
seals_touch i key most feed (row r) e = cc
seals_touch i key most feed (seal k count) e = (and_parts (is_same_row k key) (nat_le count most) e).0

module _ (i : Instance) (heard : List Pair) (batch : Batch) (key : Row) (apart : list_any (is_touching i key) batch ≡ false) where
  never : (pair : Pair) → Has pair batch → is_touching i key pair ≡ true → ⊥
  never pair h e = let found = any_from_Has (is_touching i key) pair batch h e in let no_more : true ≡ false = sym found ∙ apart in cc

  no_entry : (feed : ℕ) → filter (is_of_key i key) (entries_of i (from_feed feed batch)) ≡ []
  no_entry feed = none_of (is_of_key i key) (entries_of i (from_feed feed batch)) (λ entry h. false_from_ne_true (is_of_key i key entry) (λ of.
      let m = Has-from_filter_map (entry_of i) entry (from_feed feed batch) h in
      let kept = Has-from_filter (λ pair. pair.0 == feed) m.0 batch m.1 in
      never m.0 kept.0 (entry_touches i key m.0.0 m.0.1 entry m.2 of)))

  same_count : (feed : ℕ) → count_heard_from i (heard ++ batch) key feed ≡ count_heard_from i heard key feed
  same_count feed =
      ap (λ pairs. length (set_of (map (λ entry. entry.1) (filter (is_of_key i key) (entries_of i pairs))))) (filter-append (λ pair. pair.0 == feed) heard batch)
      ∙ ap (λ entries. length (set_of (map (λ entry. entry.1) (filter (is_of_key i key) entries)))) (entries_of-append i (from_feed feed heard) (from_feed feed batch))
      ∙ ap (λ entries. length (set_of (map (λ entry. entry.1) entries))) (filter-append (is_of_key i key) (entries_of i (from_feed feed heard)) (entries_of i (from_feed feed batch)))
      ∙ ap (λ more. length (set_of (map (λ entry. entry.1) (filter (is_of_key i key) (entries_of i (from_feed feed heard)) ++ more)))) (no_entry feed)
      ∙ ap (λ entries. length (set_of (map (λ entry. entry.1) entries))) (append-nil (filter (is_of_key i key) (entries_of i (from_feed feed heard))))

  no_seal : (most feed : ℕ) → list_any (λ pair. is_seal_within key most pair.1) (from_feed feed batch) ≡ false
  no_seal most feed = false_from_ne_true (list_any (λ pair. is_seal_within key most pair.1) (from_feed feed batch)) (λ e.
      let m = Has-from_any (λ pair. is_seal_within key most pair.1) (from_feed feed batch) e in
      let kept = Has-from_filter (λ pair. pair.0 == feed) m.0 batch m.1 in
      never m.0 kept.0 (seals_touch i key most m.0.0 m.0.1 m.2))

  same_from : (feed : ℕ) → is_whole_from i (heard ++ batch) key feed ≡ is_whole_from i heard key feed
  same_from feed =
      let most : ℕ = count_heard_from i heard key feed in
      ap (λ n. list_any (λ pair. is_seal_within key n pair.1) (from_feed feed (heard ++ batch))) (same_count feed)
      ∙ ap (list_any (λ pair. is_seal_within key most pair.1)) (filter-append (λ pair. pair.0 == feed) heard batch)
      ∙ list_any-append (λ pair. is_seal_within key most pair.1) (from_feed feed heard) (from_feed feed batch)
      ∙ ap (λ b. list_any (λ pair. is_seal_within key most pair.1) (from_feed feed heard) || b) (no_seal most feed)
      ∙ or_false (list_any (λ pair. is_seal_within key most pair.1) (from_feed feed heard))

  all_same : (feeds : List ℕ) → list_all (is_whole_from i (heard ++ batch) key) feeds ≡ list_all (is_whole_from i heard key) feeds
  all_same [] = refl
  all_same (feed ∷ feeds) = ap (λ b. b && list_all (is_whole_from i (heard ++ batch) key) feeds) (same_from feed) ∙ ap (λ b. is_whole_from i heard key feed && b) (all_same feeds)

  -- a batch without a message of a partition changes nothing of whether it is whole
  pub whole-apart : is_whole i (heard ++ batch) key ≡ is_whole i heard key
  whole-apart = ap (λ b. is_some_feed (carrying_feeds i) && b) (all_same (carrying_feeds i))

-- so only partitions of which the batch has a message become whole with it
pub becomes-is_touching : (i : Instance) (heard : List Pair) (batch : Batch) (key : Row) → BecomesWhole i heard batch key → list_any (is_touching i key) batch ≡ true
becomes-is_touching i heard batch key b =
    elim (list_any (is_touching i key) batch) as (λ t. list_any (is_touching i key) batch ≡ t → t ≡ true) [
      | true ↦ λ e. refl
      | false ↦ λ e. let no_more : true ≡ false = sym b.after ∙ whole-apart i heard batch key e ∙ b.before in cc
    ] refl
