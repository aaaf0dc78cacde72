-- Rows that go among sorted others from the last on: behind it stand those that are greater, and the rest goes among those before it.
use Rattle.std.proofs.Common.{◌≡◌, ℕ, ◌+◌, ◌≤◌, List, [], ◌∷◌, ◌++◌, length, reverse, take, drop, append_assoc, append-nil, refl, ap, ◌∙◌, sym, subst, inl, inr, arith}
use Rattle.std.specs.declared.cmp.Ordering.TheVariants.{Less}
use Rattle.std.specs.List.{insert}
use Rattle.std.specs.List.Sorted.{IsStrictlySortedBy}
use Rattle.std.proofs.lemmas.List.{append_cancel_right, reverse-append, length-append, length-reverse, length-drop, length-take-le, take-append-drop, take_at, take-take, nil_from_length}
use Rattle.blz_value.specs.Members.{Has}
use Rattle.blz_value.specs.Record.{Row, record_cmp}
use Rattle.blz_value.specs.RecordOrder.{record_cmp_total}
use Rattle.blz_value.specs.Sets.{set_of, IsRowSet}
use Rattle.blz_value.proofs.Membership.{Has-append_left, Has-append_right, Has-append_cases}
use Rattle.blz_value.proofs.RowSets.{set_of-sorted}
use Rattle.blz_value.proofs.SetLaws.{sorted_set_of, Has-set_of, Has-from_set_of, same_row_sets}
use Rattle.blz_value.proofs.SetLemmas.{all_has, all_from_has}

-- ---- sorted lists in two parts

-- each row of the first list is below each of the second
abbrev pub AreBelow : (lows highs : List Row) → Type 0
AreBelow lows highs = (low high : Row) → Has low lows → Has high highs → record_cmp low high ≡ Less

pub sorted_parts : (lows highs : List Row) → IsRowSet (lows ++ highs) → IsRowSet lows × IsRowSet highs × AreBelow lows highs
unfolding IsStrictlySortedBy
sorted_parts [] highs s = (tt, s, λ low high h k. absurd h)
sorted_parts (row ∷ lows) highs s =
    let rest = sorted_parts lows highs s.1 in
    let below = λ (q : Row) (h : Has q (lows ++ highs)). all_has (λ (y : Row). record_cmp row y ≡ Less) q (lows ++ highs) s.0 h in (
      (all_from_has (λ (y : Row). record_cmp row y ≡ Less) lows (λ q h. below q (Has-append_left q lows highs h)), rest.0),
      rest.1,
      λ low high h k. elim h [
        | inl e ↦ subst (λ (y : Row). record_cmp y high ≡ Less) e (below high (Has-append_right high lows highs k))
        | inr m ↦ rest.2 low high m k
      ],
    )

pub sorted_join : (lows highs : List Row) → IsRowSet lows → IsRowSet highs → AreBelow lows highs → IsRowSet (lows ++ highs)
unfolding IsStrictlySortedBy
sorted_join [] highs s t below = t
sorted_join (row ∷ lows) highs s t below = (
  all_from_has (λ (y : Row). record_cmp row y ≡ Less) (lows ++ highs) (λ q h. elim (Has-append_cases q lows highs h) [
    | inl m ↦ all_has (λ (y : Row). record_cmp row y ≡ Less) q lows s.0 m
    | inr m ↦ below row q (inl refl) m
  ]),
  sorted_join lows highs s.1 t (λ low high h k. below low high (inr h) k),
)

-- ---- the last of the rows that come

module _ (rows more : List Row) (x : Row) (at : ℕ) where
  -- a row before the place is one of all
  pub has_before : (q : Row) → Has q (take at rows) → Has q rows
  has_before q h = subst (Has q) (take-append-drop at rows) (Has-append_left q (take at rows) (drop at rows) h)

  -- the rows before the place are sorted
  pub sorted_before : IsRowSet rows → IsRowSet (take at rows)
  sorted_before sorted = (sorted_parts (take at rows) (drop at rows) (subst IsRowSet (sym (take-append-drop at rows)) sorted)).0

  module _ (more_sorted : IsRowSet (more ++ x ∷ [])) (gap : insert rows at x ≡ set_of (x ∷ rows)) where
    parted : IsRowSet (take at rows) × IsRowSet (x ∷ drop at rows) × AreBelow (take at rows) (x ∷ drop at rows)
    parted = sorted_parts (take at rows) (x ∷ drop at rows) (subst IsRowSet (sym gap) (sorted_set_of (x ∷ rows)))

    below_last : AreBelow (set_of (take at rows ++ more)) (x ∷ drop at rows)
    below_last low high h k =
        elim (Has-append_cases low (take at rows) more (Has-from_set_of low (take at rows ++ more) h)) [
          | inl m ↦ parted.2 low high m k
          | inr m ↦
              let under : record_cmp low x ≡ Less = (sorted_parts more (x ∷ []) more_sorted).2 low x m (inl refl) in
              elim k [
                | inl e ↦ subst (λ (y : Row). record_cmp low y ≡ Less) e under
                | inr n ↦ record_cmp_total.trans low x high under ((sorted_parts (x ∷ []) (drop at rows) parted.1).2 x high (inl refl) n)
              ]
        ]

    -- it comes before those behind its place, and the others go among those before it
    pub merged_last : set_of (rows ++ (more ++ x ∷ [])) ≡ set_of (take at rows ++ more) ++ x ∷ drop at rows
    merged_last =
        let lows = set_of (take at rows ++ more) in
        let highs = x ∷ drop at rows in
        let all = rows ++ (more ++ x ∷ []) in
        same_row_sets (set_of all) (lows ++ highs) (sorted_set_of all) (sorted_join lows highs (sorted_set_of (take at rows ++ more)) parted.1 below_last) (
          λ q h. elim (Has-append_cases q rows (more ++ x ∷ []) (Has-from_set_of q all h)) [
            | inl m ↦ elim (Has-append_cases q (take at rows) (drop at rows) (subst (Has q) (sym (take-append-drop at rows)) m)) [
              | inl n ↦ Has-append_left q lows highs (Has-set_of q (take at rows ++ more) (Has-append_left q (take at rows) more n))
              | inr n ↦ Has-append_right q lows highs (inr n)
            ]
            | inr m ↦ elim (Has-append_cases q more (x ∷ []) m) [
              | inl n ↦ Has-append_left q lows highs (Has-set_of q (take at rows ++ more) (Has-append_right q (take at rows) more n))
              | inr n ↦ elim n [ inl e ↦ Has-append_right q lows highs (inl e) | inr none ↦ absurd none ]
            ]
          ],
          λ q h. Has-set_of q all (elim (Has-append_cases q lows highs h) [
            | inl m ↦ elim (Has-append_cases q (take at rows) more (Has-from_set_of q (take at rows ++ more) m)) [
              | inl n ↦ Has-append_left q rows (more ++ x ∷ []) (has_before q n)
              | inr n ↦ Has-append_right q rows (more ++ x ∷ []) (Has-append_left q more (x ∷ []) n)
            ]
            | inr m ↦ elim m [
              | inl e ↦ Has-append_right q rows (more ++ x ∷ []) (Has-append_right q more (x ∷ []) (inl e))
              | inr n ↦ Has-append_left q rows (more ++ x ∷ []) (subst (Has q) (take-append-drop at rows) (Has-append_right q (take at rows) (drop at rows) n))
            ]
          ]),
        )

-- where none come, all are there
pub merged_none : (rows more : List Row) → length more ≡ 0 → IsRowSet rows → rows ≡ set_of (rows ++ more)
merged_none rows more none sorted =
    sym (ap (λ (l : List Row). set_of (rows ++ l)) (nil_from_length more none) ∙ ap set_of (append-nil rows) ∙ set_of-sorted rows sorted)
