-- The rows of a bag, and what changes of them where a row is given once less or once more.
use Rattle.std.proofs.Common.{◌≡◌, ℕ, zero, suc, ◌<◌, ◌≤◌, Bool, IsTrue, ◌↔◌, true, false, List, [], ◌∷◌, ◌++◌, length, Option, Some, None, IsSome, is_some, Err, refl, ap, ◌∙◌, sym, subst, inl, inr, ◌⊎◌, arith}
use Rattle.std.specs.BTreeMap.{BTreeMap, get, is_at, keys, btree_map_len, IsOrdered}
use Rattle.std.specs.Map.{lookup}
use Rattle.std.specs.Ordering.{eq_by_cmp}
use Rattle.std.proofs.lemmas.List.{length-map}
use Rattle.std.proofs.lemmas.Map.Views.{All-found, Contains-from_lookup}
use Rattle.blz_value.specs.Members.{Has}
use Rattle.blz_value.specs.Record.{Row, record_cmp}
use Rattle.blz_value.specs.RecordOrder.{record_cmp_total, record_cmp_exact}
use Rattle.blz_value.specs.Sets.{set_of, IsRowSet}
use Rattle.blz_value.proofs.Membership.{Has-map, Has-from_map, Has-append_left, Has-append_right, Has-append_cases, Has-from_Contains, All-of_member}
use Rattle.blz_value.proofs.OperatorsLemmas.{length-within}
use Rattle.blz_value.proofs.RowSets.{is_set_of, same_set_of, length-insert_key-ge}
use Rattle.blz_value.proofs.SetLaws.{sorted_set_of, Has-set_of, Has-from_set_of}
use Rattle.blz_set.specs.Answers.{Gives}
use Rattle.blz_set.specs.RecordSet.{row_limit}
use Rattle.blz_set.specs.declared.fault.SetFault.{SetFault}
use Rattle.blz_set.specs.declared.fault.SetFault.TheVariants.{TooManyRows, NoMemory}
use Rattle.blz_set.specs.Missing.{missing_from}
use Rattle.blz_set.proofs.Runs.{same_row}
use Rattle.bloom_growth.specs.Growth.{Extends}
use Rattle.bloom_growth.specs.Turned.{Turned, TurnsInto}
use Rattle.bloom_growth.specs.Counts.{times, AreCounted}
use Rattle.bloom_growth.proofs.CountsLemmas as counts
use Rattle.bloom_growth.proofs.CountsLemmas.{has_some}
use Rattle.bloom_growth.proofs.Extending.{sorted_new, old_is_in, fresh_is_in, old_or_fresh}
use Rattle.bloom_growth.proofs.TurnedLemmas.{turned_by, is_missing, in_missing, from_missing}
use Rattle.bloom_growth.proofs.GrowSets.{missing_sorted}

-- ---- how often a row is given, and whether it is

pub times_has : (rows : List Row) (row : Row) → 0 < times record_cmp rows row → Has row rows
times_has rows row some = counts.times_has record_cmp_total record_cmp_exact rows row some

pub lacks_none : (rows : List Row) (row : Row) → times record_cmp rows row ≡ 0 → ¬ Has row rows
lacks_none rows row none h = let some = counts.has_times record_cmp_total record_cmp_exact rows row h in omega (arith, some, none)

pub none_given : (rows : List Row) (row : Row) → ¬ Has row rows → 0 ≡ times record_cmp rows row
none_given rows row lacks = by_count (times record_cmp rows row) refl
  where
    by_count : (count : ℕ) → times record_cmp rows row ≡ count → 0 ≡ times record_cmp rows row
    by_count zero e = sym e
    by_count (suc count) e = absurd (lacks (times_has rows row (omega (arith, e))))

-- ---- the rows of a tree of counts

module _ (rows : List Row) (tree : BTreeMap Row ℕ) (are : AreCounted record_cmp rows tree) where
  -- a row is found exactly where it is given
  pub found_has : (row : Row) → IsSome (get record_cmp tree row) → Has row rows
  found_has row some = counts.found_has record_cmp_total record_cmp_exact rows tree are row some

  pub has_found : (row : Row) → Has row rows → IsSome (get record_cmp tree row)
  has_found row h = counts.has_found record_cmp_total record_cmp_exact rows tree are row h

  -- a test that looks a row up
  pub found_means : (row : Row) (b : Bool) → b ≡ is_some (get record_cmp tree row) → IsTrue b ↔ Has row rows
  found_means row b e = (λ is. found_has row (sym e ∙ is), λ h. e ∙ has_found row h)

  -- the keys are the rows, as a set
  pub keys_are : IsOrdered record_cmp tree → keys tree ≡ set_of rows
  keys_are ordered = is_set_of (keys tree) rows ordered (key_has, has_key)
    where
      key_has : (key : Row) → Has key (keys tree) → Has key rows
      key_has key h =
          let e = Has-from_map (λ (e : Row × ℕ). e.0) key tree.entries h in
          let found : get record_cmp tree e.0.0 ≡ Some e.0.1 = All-of_member (λ (e : Row × ℕ). get record_cmp tree e.0 ≡ Some e.1) tree.entries e.0 (All-found record_cmp_total tree ordered) e.1 in
          subst (λ (k : Row). Has k rows) e.2 (found_has e.0.0 (subst (λ (o : Option ℕ). IsSome o) (sym found) refl))

      at : (key : Row) (o : Option ℕ) → get record_cmp tree key ≡ o → IsSome o → Has key (keys tree)
      at key None e some = cc
      at key (Some n) e some = Has-map (λ (e : Row × ℕ). e.0) (key, n) tree.entries (Has-from_Contains tree.entries (key, n) (Contains-from_lookup {eq = eq_by_cmp record_cmp} same_row key n tree.entries e))

      has_key : (key : Row) → Has key rows → Has key (keys tree)
      has_key key h = at key (get record_cmp tree key) refl (has_found key h)

  -- so there are as many
  pub count_is : IsOrdered record_cmp tree → btree_map_len tree ≡ length (set_of rows)
  count_is ordered = sym (length-map tree.entries (λ (e : Row × ℕ). e.0)) ∙ ap length (keys_are ordered)

-- a test that looks a row up and fails
pub not_there : (rows : List Row) (counts : BTreeMap Row ℕ) (row : Row) (b : Bool) → AreCounted record_cmp rows counts → b ≡ false → (IsTrue b ↔ IsSome (get record_cmp counts row)) → ¬ Has row rows
not_there rows counts row b are e means h = let there : b ≡ true = means.1 (has_found rows counts are row h) in cc

-- a tree with the same entries counts the same rows
pub counted_still : (rows : List Row) (old new : BTreeMap Row ℕ) → new.entries ≡ old.entries → AreCounted record_cmp rows old → AreCounted record_cmp rows new
counted_still rows old new same are key = ap (λ (es : List (Row × ℕ)). lookup (is_at (record_cmp key)) es) same ∙ are key

-- ---- one row less, and one more

-- a set grows by nothing
pub extends_none : (rows none : List Row) → IsRowSet rows → none ≡ [] → Extends rows rows none
extends_none rows none sorted e = record {
  sorted = sorted;
  fresh_sorted = subst IsRowSet (sym e) (sorted_set_of []);
  all = is_set_of rows (rows ++ none) sorted (λ q h. Has-append_left q rows none h, λ q h. elim (Has-append_cases q rows none h) [ inl a ↦ a | inr b ↦ absurd (subst (λ (l : List Row). Has q l) e b) ]);
  apart = λ q h. absurd (subst (λ (l : List Row). Has q l) e h);
}

module _ (row : Row) (rows : List Row) where
  -- a row more or less that is given still
  pub same_rows : Has row rows → set_of (row ∷ rows) ≡ set_of rows
  same_rows h = same_set_of (row ∷ rows) rows (λ q m. elim m [ inl e ↦ subst (λ (z : Row). Has z rows) e h | inr old ↦ old ], λ q m. inr m)

  -- no more rows than with one more
  pub few_less : length (set_of (row ∷ rows)) ≤ row_limit → length (set_of rows) ≤ row_limit
  few_less few = omega (arith, few, length-insert_key-ge record_cmp row (set_of rows))

  -- the last of its kind leaves
  pub one_left : (old left : List Row) → ¬ Has row rows → Extends (set_of (row ∷ rows)) old (set_of left) → Extends (set_of rows) old (set_of (left ++ row ∷ []))
  one_left old left lacks e =
      let kept = set_of rows in
      let gone = left ++ row ∷ [] in
      record {
        sorted = sorted_set_of rows;
        fresh_sorted = sorted_set_of gone;
        all = is_set_of old (kept ++ set_of gone) (sorted_new (set_of (row ∷ rows)) old (set_of left) e) (
          λ q h. elim (old_or_fresh (set_of (row ∷ rows)) old (set_of left) e q h) [
            | inl a ↦ elim (Has-from_set_of q (row ∷ rows) a) [
              | inl is ↦ Has-append_right q kept (set_of gone) (Has-set_of q gone (Has-append_right q left (row ∷ []) (inl is)))
              | inr m ↦ Has-append_left q kept (set_of gone) (Has-set_of q rows m)
            ]
            | inr b ↦ Has-append_right q kept (set_of gone) (Has-set_of q gone (Has-append_left q left (row ∷ []) (Has-from_set_of q left b)))
          ],
          λ q h. elim (Has-append_cases q kept (set_of gone) h) [
            | inl a ↦ old_is_in (set_of (row ∷ rows)) old (set_of left) e q (Has-set_of q (row ∷ rows) (inr (Has-from_set_of q rows a)))
            | inr b ↦ elim (Has-append_cases q left (row ∷ []) (Has-from_set_of q gone b)) [
              | inl l ↦ fresh_is_in (set_of (row ∷ rows)) old (set_of left) e q (Has-set_of q left l)
              | inr r ↦ old_is_in (set_of (row ∷ rows)) old (set_of left) e q (Has-set_of q (row ∷ rows) (elim r [ inl is ↦ inl is | inr n ↦ absurd n ]))
            ]
          ],
        );
        apart = λ q h held. elim (Has-append_cases q left (row ∷ []) (Has-from_set_of q gone h)) [
          | inl l ↦ e.apart q (Has-set_of q left l) (Has-set_of q (row ∷ rows) (inr (Has-from_set_of q rows held)))
          | inr r ↦ elim r [ inl is ↦ lacks (subst (λ (z : Row). Has z rows) (sym is) (Has-from_set_of q rows held)) | inr n ↦ absurd n ]
        ];
      }

  -- the first of its kind enters
  pub one_entered : (mid entered : List Row) → ¬ Has row rows → Extends mid (set_of rows) (set_of entered) → Extends mid (set_of (row ∷ rows)) (set_of (entered ++ row ∷ []))
  one_entered mid entered lacks e =
      let come = entered ++ row ∷ [] in
      record {
        sorted = e.sorted;
        fresh_sorted = sorted_set_of come;
        all = is_set_of (set_of (row ∷ rows)) (mid ++ set_of come) (sorted_set_of (row ∷ rows)) (
          λ q h. elim (Has-from_set_of q (row ∷ rows) h) [
            | inl is ↦ Has-append_right q mid (set_of come) (Has-set_of q come (Has-append_right q entered (row ∷ []) (inl is)))
            | inr m ↦ elim (old_or_fresh mid (set_of rows) (set_of entered) e q (Has-set_of q rows m)) [
              | inl a ↦ Has-append_left q mid (set_of come) a
              | inr b ↦ Has-append_right q mid (set_of come) (Has-set_of q come (Has-append_left q entered (row ∷ []) (Has-from_set_of q entered b)))
            ]
          ],
          λ q h. Has-set_of q (row ∷ rows) (elim (Has-append_cases q mid (set_of come) h) [
            | inl a ↦ inr (Has-from_set_of q rows (old_is_in mid (set_of rows) (set_of entered) e q a))
            | inr b ↦ elim (Has-append_cases q entered (row ∷ []) (Has-from_set_of q come b)) [
              | inl l ↦ inr (Has-from_set_of q rows (fresh_is_in mid (set_of rows) (set_of entered) e q (Has-set_of q entered l)))
              | inr r ↦ elim r [ inl is ↦ inl is | inr n ↦ absurd n ]
            ]
          ]),
        );
        apart = λ q h held. elim (Has-append_cases q entered (row ∷ []) (Has-from_set_of q come h)) [
          | inl l ↦ e.apart q (Has-set_of q entered l) held
          | inr r ↦ elim r [ inl is ↦ lacks (subst (λ (z : Row). Has z rows) (sym is) (Has-from_set_of q rows (old_is_in mid (set_of rows) (set_of entered) e q held))) | inr n ↦ absurd n ]
        ];
      }

-- ---- what has changed in the end

module _ (old mid new left entered : List Row) (before : Extends mid old left) (after : Extends mid new entered) where
  -- where nothing left, or nothing entered, what entered and what left
  pub turned_plain : length left ≡ 0 ⊎ length entered ≡ 0 → Turned old new entered left
  turned_plain none = turned_by old new entered left mid before after (λ q e l. elim none [ inl z ↦ nothing left z q l | inr z ↦ nothing entered z q e ])
    where
      nothing : (rows : List Row) → length rows ≡ 0 → (q : Row) → Has q rows → ⊥
      nothing rows z q h = let some = has_some q rows h in omega (arith, z, some)

  -- else what didn't do both
  pub turned_both : (more gone : List Row) → more ≡ missing_from left entered → gone ≡ missing_from entered left → Turned old new more gone
  turned_both more gone more_is gone_is = record {
    old_sorted = sorted_new mid old left before;
    new_sorted = sorted_new mid new entered after;
    more_is = more_is ∙ is_missing old new (missing_from left entered) (sorted_new mid new entered after) (missing_sorted left entered after.fresh_sorted) (
        λ q h. let m = from_missing left entered q h in (
          fresh_is_in mid new entered after q m.0,
          λ held. elim (old_or_fresh mid old left before q held) [ inl k ↦ after.apart q m.0 k | inr l ↦ m.1 l ],
        )
        ) (
        λ q h lacks. elim (old_or_fresh mid new entered after q h) [
          | inl k ↦ absurd (lacks (old_is_in mid old left before q k))
          | inr e ↦ in_missing left entered q e (λ l. lacks (fresh_is_in mid old left before q l))
        ]
        );
    gone_is = gone_is ∙ is_missing new old (missing_from entered left) (sorted_new mid old left before) (missing_sorted entered left before.fresh_sorted) (
        λ q h. let m = from_missing entered left q h in (
          fresh_is_in mid old left before q m.0,
          λ held. elim (old_or_fresh mid new entered after q held) [ inl k ↦ before.apart q m.0 k | inr e ↦ m.1 e ],
        )
        ) (
        λ q h lacks. elim (old_or_fresh mid old left before q h) [
          | inl k ↦ absurd (lacks (old_is_in mid new entered after q k))
          | inr l ↦ in_missing entered left q l (λ e. lacks (fresh_is_in mid new entered after q e))
        ]
        );
  }

  -- what left is no more than there was, and what entered no more than there is
  pub few_left : length left ≤ length old
  few_left = length-within left old before.fresh_sorted (fresh_is_in mid old left before)

  pub few_entered : length entered ≤ length new
  few_entered = length-within entered new after.fresh_sorted (fresh_is_in mid new entered after)

-- a fault that can't be
pub turn_no_fault : (old new found : List Row) (fault : SetFault) → length found ≤ row_limit → Gives found (Err fault) → TurnsInto old new (Err fault)
turn_no_fault old new found TooManyRows few h = absurd (omega (arith, few, h))
turn_no_fault old new found NoMemory few h = tt
