-- The emitted list of a source is honest.
use Rattle.std.proofs.Common.{◌≡◌, refl, ap, sym, subst, ◌∙◌, ℕ, true, false, List, [], ◌∷◌, ◌++◌, length, map, filter, append-nil, inl, inr, Option, None, Some}
use Rattle.std.specs.List.{cons_option}
use Rattle.blz_value.specs.Members.{Has}
use Rattle.blz_value.specs.Record.{Row}
use Rattle.blz_value.specs.Operators.{cells}
use Rattle.blz_value.proofs.Membership.{Has-append_left, Has-append_right, Has-from_map}
use Rattle.blz_value.specs.declared.attrs.Attrs.{Attrs}
use Rattle.inbox.proofs.SourceMessages.{rows_of}
use Rattle.bloom_forms.specs.Roots.{Roots}
use Rattle.topo_forms.specs.Data.{SourceData, key_places}
use Rattle.topo_forms.specs.Messages.{Message, row, seal, row_in, rows_in, is_same_row, distinct_rows, partitions, source_seals, source_messages}
use Rattle.topo_forms.specs.View.{Stream}
use Rattle.inbox.specs.Growth.{NoRepeats, is_repeat_of}
use Rattle.inbox.proofs.Lists.Repeats.{no_repeats-after, no_repeats-source}
use Rattle.inbox.proofs.Lists.Rows.{rows_in-append}
use Rattle.messages.proofs.MessagesLemmas.{is_same_row-itself}
use Rattle.confluence.specs.Honest.{IsHonest}

-- ---- lists without repeats

-- after a seal no other of its partition stands
pub no_other_seal : (before after : List Message) (key : Row) (count : ℕ) → NoRepeats (before ++ seal key count ∷ after) → (other : ℕ) → ¬ Has (seal key other) after
no_other_seal before after key count none other h =
    let rest = no_repeats-after before (seal key count ∷ after) none in
    let apart : is_same_row key key ≡ false = rest.0 (seal key other) h in
    let no : true ≡ false = sym (is_same_row-itself key) ∙ apart in
    cc

-- a record before a message doesn't stand after it
pub no_row_again : (before after : List Message) (m : Message) (r : Row) → NoRepeats (before ++ m ∷ after) → Has (row r) before → ¬ Has (row r) after
no_row_again [] after m r none h g = absurd h
no_row_again (b ∷ before) after m r none (inl e) g =
    let apart : is_repeat_of b (row r) ≡ false = none.0 (row r) (Has-append_right (row r) before (m ∷ after) (inr g)) in
    let own : is_same_row r r ≡ false = subst (λ z. is_repeat_of z (row r) ≡ false) e apart in
    let no : true ≡ false = sym (is_same_row-itself r) ∙ own in
    cc
no_row_again (b ∷ before) after m r none (inr h) g = no_row_again before after m r none.1 h g

-- ---- records, and then seals

no_rows : (messages : List Message) → ((m : Message) → Has m messages → row_in m ≡ None) → rows_in messages ≡ []
no_rows [] none = refl
no_rows (m ∷ messages) none = ap (λ o. cons_option o (rows_in messages)) (none m (inl refl)) ∙ no_rows messages (λ q h. none q (inr h))

-- where records stand first, a list is cut at a seal among what comes after them
cut : (rows : List Row) (rest before after : List Message) (key : Row) (count : ℕ) → map row rows ++ rest ≡ before ++ seal key count ∷ after
    → (between : List Message) × (before ≡ map row rows ++ between) × (rest ≡ between ++ seal key count ∷ after)
cut [] rest before after key count e = (before, refl, e)
cut (r ∷ rows) rest [] after key count e = cc
cut (r ∷ rows) rest (b ∷ before) after key count e =
    let first : row r ≡ b = cc in
    let tail : map row rows ++ rest ≡ before ++ seal key count ∷ after = cc in
    let c = cut rows rest before after key count tail in
    (c.0, (let is = c.1 in cc), c.2)

module _ (places : List ℕ) (rows : List Row) where
  -- the seal of a partition, with the number of its records
  abbrev source_seal : Row → Message
  source_seal key = seal key (length (filter (λ r. is_same_row (cells places r) key) rows))

  one_seal : (keys : List Row) (m : Message) → Has m (map source_seal keys) → (key : Row) × (source_seal key ≡ m)
  one_seal keys m h = let found = Has-from_map source_seal m keys h in (found.0, found.2)

  seal_row : (m : Message) (key : Row) → source_seal key ≡ m → row_in m ≡ None
  seal_row m key e = ap row_in (sym e)

  pub sealed_honestly : (keys : List Row) → NoRepeats (map row rows ++ map source_seal keys) → IsHonest places (map row rows ++ map source_seal keys)
  sealed_honestly keys none before after key count e =
      let c = cut rows (map source_seal keys) before after key count e in
      let all_seals : (m : Message) → Has m (map source_seal keys) → row_in m ≡ None = λ m h. let s = one_seal keys m h in seal_row m s.0 s.1 in
      let mine = one_seal keys (seal key count) (subst (λ l. Has (seal key count) l) (sym c.2) (Has-append_right (seal key count) c.0 (seal key count ∷ after) (inl refl))) in
      let between_none : rows_in c.0 ≡ [] = no_rows c.0 (λ m h. all_seals m (subst (λ l. Has m l) (sym c.2) (Has-append_left m c.0 (seal key count ∷ after) h))) in
      let before_rows : rows_in before ≡ rows = ap rows_in c.1 ∙ rows_in-append (map row rows) c.0 ∙ ap (λ l. rows_in (map row rows) ++ l) between_none ∙ append-nil (rows_in (map row rows)) ∙ rows_of rows in
      let is : seal mine.0 (length (filter (λ r. is_same_row (cells places r) mine.0) rows)) ≡ seal key count = mine.1 in
      let same_key : mine.0 ≡ key = cc in
      let same_count : length (filter (λ r. is_same_row (cells places r) mine.0) rows) ≡ count = cc in
      record {
        counts = ap (λ l. length (filter (λ r. is_same_row (cells places r) key) l)) before_rows ∙ ap (λ k. length (filter (λ r. is_same_row (cells places r) k) rows)) (sym same_key) ∙ same_count;
        no_row = λ r h.
            let none_here = all_seals (row r) (subst (λ l. Has (row r) l) (sym c.2) (Has-append_right (row r) c.0 (seal key count ∷ after) (inr h))) in
            let no : Some r ≡ None = none_here in
            cc;
        no_seal = λ other h. no_other_seal before after key count (subst (λ l. NoRepeats l) e none) other h;
      }

by_key : (columns : Roots) (key : Option Attrs) (own : Attrs) (given : SourceData) → key ≡ Some own
    → NoRepeats (map row (distinct_rows given.rows) ++ source_seals columns key given) → IsHonest (key_places columns own.bits) (map row (distinct_rows given.rows) ++ source_seals columns key given)
by_key columns None own given is none = cc
by_key columns (Some key) own given is none =
    let same : key ≡ own = cc in
    subst (λ (k : Attrs). IsHonest (key_places columns k.bits) (map row (distinct_rows given.rows) ++ source_seals columns (Some key) given)) same
    (sealed_honestly (key_places columns key.bits) (distinct_rows given.rows) (partitions columns key.bits given) none)

pub honest_source : (s : Stream) (key : Attrs) (given : SourceData) → s.key ≡ Some key → IsHonest (key_places s.columns key.bits) (source_messages s given)
honest_source s key given is = by_key s.columns s.key key given is (no_repeats-source s given)
