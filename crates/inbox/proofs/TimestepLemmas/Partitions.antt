-- Under Seal nothing of a partition stands in a timestep before the batch with which it becomes whole; then one timestep has all that carrying ports heard of it, and later ones have what was heard later.
use Rattle.std.proofs.Common.{◌≡◌, refl, ap, sym, subst, ◌∙◌, ◌<◌, ◌&&◌, Bool, true, false, not, List, [], ◌∷◌, ◌++◌, length, filter, append_assoc, append-nil, inl, inr, Option, Some}
use Rattle.std.specs.List.{list_any, flat_map}
use Rattle.std.specs.Option.{option_map_or, unwrap_or}
use Rattle.std.proofs.lemmas.Bool.{not-true, and_parts}
use Rattle.std.proofs.lemmas.Grind.{flat_map-append}
use Rattle.blz_value.specs.Members.{Has}
use Rattle.blz_value.specs.Record.{Row}
use Rattle.blz_value.proofs.Membership.{Has-append_left, Has-append_cases, Has-filter, Has-from_filter, any_from_Has}
use Rattle.bloom_forms.specs.Step.{Sets, set_at}
use Rattle.blz_value.specs.declared.attrs.Attrs.{Attrs}
use Rattle.bloom_forms.specs.declared.mode.Mode.TheVariants.{Seal}
use Rattle.messages.specs.Messages.{Pair, Batch, Entry, is_same_entry, all_pairs, firsts}
use Rattle.inbox.specs.Instances.{Instance, is_carrying, entries_of, key_of_entry, is_of_key}
use Rattle.bloom_eval.specs.Arrivals.{timestep_of}
use Rattle.inbox.specs.Timesteps.{is_whole, is_due, is_of_some, newly_whole, released_steps, first_part, second_part, set_off, each_after, each_set_off, one_by_one, timesteps}
use Rattle.messages.proofs.MessagesLemmas.{is_same_entry-is, is_same_entry-itself, Has-from_firsts}
use Rattle.inbox.specs.Timesteps.{Stands}
use Rattle.inbox.proofs.TimestepLemmas.Arriving.{Has-arrivals, Has-from_arrivals, Stands-from_together, Stands-from_one_by_one}
use Rattle.inbox.proofs.TimestepLemmas.Whole.{entries_of-append, whole-more, whole-sealed, BecomesWhole, becomes-newly}
use Rattle.inbox.proofs.TimestepLemmas.UnderSeal.{is-of_key, seal_steps-from, by_end, all_pairs-more, seal_set_off, seal_timesteps-go}

-- ---- before, at and after the batch with which a partition becomes whole

one_key : (a b : Row) (of : Option Row) → of ≡ Some a → of ≡ Some b → a ≡ b
one_key a b of p q = ap (λ o. unwrap_or o a) (sym p ∙ q)

whole_by : (i : Instance) (heard : List Pair) (entry : Entry) (key : Row) → key_of_entry i entry ≡ Some key → is_due i heard entry ≡ true → is_whole i heard key ≡ true
whole_by i heard entry key of due = sym (ap (λ k. option_map_or (is_whole i heard) k true) of) ∙ due

-- the timesteps of a life in which a partition becomes whole with one of the batches
pub record Opens (i : Instance) (key : Row) (heard : List Pair) (earlier : List Sets) (opening : Sets) (later : List Sets) : Type 0 where
  -- no record of the partition stands in an earlier timestep
  pub none_before : (entry : Entry) → key_of_entry i entry ≡ Some key → ¬ Stands earlier entry
  -- the opening has of it what carrying ports heard, and nothing at another port
  pub all_heard : (entry : Entry) → key_of_entry i entry ≡ Some key → entry.0 < length i.ports → is_carrying i entry.0 ≡ true → Has entry (entries_of i heard) → Has entry.1 (set_at opening entry.0)
  pub only_heard : (entry : Entry) → key_of_entry i entry ≡ Some key → Has entry.1 (set_at opening entry.0) → Has entry (entries_of i heard) × (is_carrying i entry.0 ≡ true)
  -- a later timestep has at carrying ports what wasn't heard by then
  pub later_new : (entry : Entry) → key_of_entry i entry ≡ Some key → is_carrying i entry.0 ≡ true → Stands later entry → ¬ Has entry (entries_of i heard)

module _ (i : Instance) (mode_key : Attrs) (is_seal : i.mode ≡ Seal mode_key) where
  -- a record of a partition that was whole before a batch stands in the batch's timesteps only where it is new
  whole_before : (heard : List Pair) (batch : Batch) (key : Row) (entry : Entry) → is_whole i heard key ≡ true → key_of_entry i entry ≡ Some key → Stands (set_off i heard batch).steps entry → ¬ Has entry (entries_of i heard)
  whole_before heard batch key entry whole of s =
      elim (seal_steps-from i heard batch mode_key entry (subst (λ l. Stands l entry) (seal_set_off i mode_key is_seal heard batch) s)) [
        | inl first ↦
            let same = one_key key first.key (key_of_entry i entry) of first.of_key in
            let no : true ≡ false = sym whole ∙ ap (is_whole i heard) same ∙ first.becomes.before in
            cc
        | inr second ↦ second.new
      ]

  -- and in later batches' timesteps only where it wasn't heard by the time at which the partition was whole
  whole_after : (heard more : List Pair) (batches : List Batch) (key : Row) (entry : Entry) → is_whole i heard key ≡ true → key_of_entry i entry ≡ Some key → Stands (flat_map (λ s. s.steps) (each_after i (heard ++ more) batches)) entry → ¬ Has entry (entries_of i heard)
  whole_after heard more [] key entry whole of s = absurd s.among
  whole_after heard more (batch ∷ batches) key entry whole of s =
      elim (Has-append_cases s.now (set_off i (heard ++ more) batch).steps (flat_map (λ t. t.steps) (each_after i ((heard ++ more) ++ batch) batches)) s.among) [
        | inl now ↦ λ h.
            whole_before (heard ++ more) batch key entry (whole-more i heard more key whole) of (record { now = s.now; among = now; there = s.there })
            (subst (λ l. Has entry l) (sym (entries_of-append i heard more)) (Has-append_left entry (entries_of i heard) (entries_of i more) h))
        | inr later ↦
            whole_after heard (more ++ batch) batches key entry whole of
            (record { now = s.now; among = subst (λ l. Has s.now (flat_map (λ t. t.steps) (each_after i l batches))) (append_assoc heard more batch) later; there = s.there })
      ]

  -- where some partition becomes whole with a batch, the first part is one timestep and those one by one
  first_of : (keys : List Row) (entries : List Entry) (key : Row) → Has key keys → first_part i keys entries ≡ released_steps i (filter (is_of_some i keys) entries)
  first_of [] entries key h = absurd h
  first_of (k ∷ keys) entries key h = refl

  -- the opening: what carrying ports heard of the partitions that become whole
  abbrev pub opening_at : (heard : List Pair) (batch : Batch) → Sets
  opening_at heard batch = timestep_of (length i.ports) (filter (λ entry. is_carrying i entry.0) (filter (is_of_some i (newly_whole i heard batch)) (entries_of i (heard ++ batch))))

  -- the rest of the batch's timesteps
  abbrev pub rest_at : (heard : List Pair) (batch : Batch) → List Sets
  rest_at heard batch =
      one_by_one (length i.ports) (firsts is_same_entry (filter (λ entry. not (is_carrying i entry.0)) (filter (is_of_some i (newly_whole i heard batch)) (entries_of i (heard ++ batch)))))
      ++ second_part i heard batch

  opened : (heard : List Pair) (batch : Batch) (key : Row) → BecomesWhole i heard batch key → (set_off i heard batch).steps ≡ opening_at heard batch ∷ rest_at heard batch
  opened heard batch key becomes =
      seal_set_off i mode_key is_seal heard batch
      ∙ ap (λ l. l ++ second_part i heard batch) (first_of (newly_whole i heard batch) (entries_of i (heard ++ batch)) key (becomes-newly i heard batch key becomes))

  each_after-split : (heard : List Pair) (before after : List Batch) → each_after i heard (before ++ after) ≡ each_after i heard before ++ each_after i (heard ++ all_pairs before) after
  each_after-split heard [] after = ap (λ h. each_after i h after) (sym (append-nil heard))
  each_after-split heard (batch ∷ before) after =
      ap (λ l. set_off i heard batch ∷ l) (each_after-split (heard ++ batch) before after
      ∙ ap (λ h. each_after i (heard ++ batch) before ++ each_after i h after) (append_assoc heard batch (all_pairs before)))

  -- the timesteps after the batch
  abbrev pub later_at : (heard : List Pair) (batch : Batch) (after : List Batch) → List Sets
  later_at heard batch after = rest_at heard batch ++ flat_map (λ s. s.steps) (each_after i (heard ++ batch) after)

  -- the timesteps of a life with a batch with which a partition becomes whole
  pub split_timesteps : (before : List Batch) (batch : Batch) (after : List Batch) (key : Row) → BecomesWhole i (all_pairs before) batch key
      → timesteps i (before ++ batch ∷ after) ≡ timesteps i before ++ opening_at (all_pairs before) batch ∷ later_at (all_pairs before) batch after
  split_timesteps before batch after key becomes =
      ap (flat_map (λ s. s.steps)) (each_after-split [] before (batch ∷ after))
      ∙ flat_map-append (λ s. s.steps) (each_set_off i before) (each_after i (all_pairs before) (batch ∷ after))
      ∙ ap (λ l. timesteps i before ++ (l ++ flat_map (λ s. s.steps) (each_after i (all_pairs before ++ batch) after))) (opened (all_pairs before) batch key becomes)

  of_some : (keys : List Row) (entry : Entry) (key : Row) → key_of_entry i entry ≡ Some key → Has key keys → is_of_some i keys entry ≡ true
  of_some keys entry key of h = any_from_Has (λ k. is_of_key i k entry) key keys h (is-of_key i key entry of)

  rest-new : (heard : List Pair) (batch : Batch) (key : Row) (entry : Entry) → BecomesWhole i heard batch key → key_of_entry i entry ≡ Some key → is_carrying i entry.0 ≡ true → ¬ Stands (rest_at heard batch) entry
  rest-new heard batch key entry becomes of carries s =
      let chosen : List Entry = filter (is_of_some i (newly_whole i heard batch)) (entries_of i (heard ++ batch)) in
      let other : Entry → Bool = λ e. not (is_carrying i e.0) in
      elim (Has-append_cases s.now (one_by_one (length i.ports) (firsts is_same_entry (filter other chosen))) (second_part i heard batch) s.among) [
        | inl one ↦
            let found = Stands-from_one_by_one (length i.ports) (firsts is_same_entry (filter other chosen)) entry (record { now = s.now; among = one; there = s.there }) in
            let kept = Has-from_filter other entry chosen (Has-from_firsts is_same_entry is_same_entry-is is_same_entry-itself entry (filter other chosen) found) in
            let no : true ≡ false = sym carries ∙ not-true (is_carrying i entry.0) kept.1 in
            cc
        | inr second ↦
            let test : Entry → Bool = λ e. not (list_any (is_same_entry e) (entries_of i heard)) && is_due i heard e in
            let f = Has-from_filter test entry (entries_of i batch) (Stands-from_together (length i.ports) (filter test (entries_of i batch)) entry (record { now = s.now; among = second; there = s.there })) in
            let whole : is_whole i heard key ≡ true = whole_by i heard entry key of (and_parts (not (list_any (is_same_entry entry) (entries_of i heard))) (is_due i heard entry) f.1).1 in
            let no : true ≡ false = sym whole ∙ becomes.before in
            cc
      ]

  -- the course of the partition
  pub partition_opens : (before : List Batch) (batch : Batch) (after : List Batch) (key : Row) → BecomesWhole i (all_pairs before) batch key
      → Opens i key (all_pairs before ++ batch) (timesteps i before) (opening_at (all_pairs before) batch) (later_at (all_pairs before) batch after)
  partition_opens before batch after key becomes =
      let heard : List Pair = all_pairs before in
      let keys : List Row = newly_whole i heard batch in
      let chosen : List Entry = filter (is_of_some i keys) (entries_of i (heard ++ batch)) in
      let at : Entry → Bool = λ e. is_carrying i e.0 in
      record {
        none_before = λ entry of s.
            let g = seal_timesteps-go i mode_key is_seal before entry s in
            let no : true ≡ false = sym (whole_by i heard entry key of g.due) ∙ becomes.before in
            cc;
        all_heard = λ entry of within carries h.
            Has-arrivals (length i.ports) (filter at chosen) entry.0 entry.1 within
            (Has-filter at entry chosen (Has-filter (is_of_some i keys) entry (entries_of i (heard ++ batch)) h (of_some keys entry key of (becomes-newly i heard batch key becomes))) carries);
        only_heard = λ entry of h.
            let kept = Has-from_filter at entry chosen (Has-from_arrivals (length i.ports) (filter at chosen) entry.0 entry.1 h).1 in
            ((Has-from_filter (is_of_some i keys) entry (entries_of i (heard ++ batch)) kept.0).0, kept.1);
        later_new = λ entry of carries s. elim (Has-append_cases s.now (rest_at heard batch) (flat_map (λ t. t.steps) (each_after i (heard ++ batch) after)) s.among) [
          | inl now ↦ absurd (rest-new heard batch key entry becomes of carries (record { now = s.now; among = now; there = s.there }))
          | inr later ↦
              whole_after (heard ++ batch) [] after key entry becomes.after of
              (record { now = s.now; among = subst (λ l. Has s.now (flat_map (λ t. t.steps) (each_after i l after))) (sym (append-nil (heard ++ batch))) later; there = s.there })
        ];
      }

-- ---- a whole partition became whole with some batch

-- the batches before, the batch, and those after
pub record BecameWhole (i : Instance) (batches : List Batch) (key : Row) : Type 0 where
  pub before : List Batch
  pub batch : Batch
  pub after : List Batch
  pub are : batches ≡ before ++ batch ∷ after
  pub becomes : BecomesWhole i (all_pairs before) batch key

pub became_whole : (i : Instance) (key : Row) (batches : List Batch) → is_whole i (all_pairs batches) key ≡ true → BecameWhole i batches key
became_whole i key batches =
    by_end (λ bs. is_whole i (all_pairs bs) key ≡ true → BecameWhole i bs key)
    (λ e. absurd (whole-sealed i [] key e))
    (λ bs b before e.
    let after : is_whole i (all_pairs bs ++ b) key ≡ true = sym (ap (λ h. is_whole i h key) (all_pairs-more bs b)) ∙ e in
    elim (is_whole i (all_pairs bs) key) as (λ t. is_whole i (all_pairs bs) key ≡ t → BecameWhole i (bs ++ b ∷ []) key) [
      | true ↦ λ was.
          let old = before was in
          record {
            before = old.before;
            batch = old.batch;
            after = old.after ++ b ∷ [];
            are = ap (λ l. l ++ b ∷ []) old.are ∙ append_assoc old.before (old.batch ∷ old.after) (b ∷ []);
            becomes = old.becomes;
          }
      | false ↦ λ wasn't. record { before = bs; batch = b; after = []; are = refl; becomes = record { before = wasn't; after = after } }
    ] refl)
    batches
