-- A set that takes one row.
use Rattle.std.proofs.Common.{◌≡◌, ◌∙◌, ◌+◌, ◌<◌, ◌≤◌, Bool, true, false, not, cond, List, [], ◌∷◌, ◌++◌, length, Ok, refl, ap, sym, subst, inl, inr, arith, length-append}
use Rattle.std.specs.Ordering.{eq_by_cmp}
use Rattle.std.specs.Prelude.{if◌then◌else◌}
use Rattle.std.proofs.lemmas.Bool.{cases_Bool, true≢false}
use Rattle.indexmap.specs.IndexSet.{insert_key}
use Rattle.blz_value.specs.Members.{Has}
use Rattle.blz_value.specs.Record.{Row, record_cmp}
use Rattle.blz_value.specs.Sets.{set_of, IsRowSet}
use Rattle.blz_value.proofs.Membership.{Has-append_left, Has-append_cases}
use Rattle.blz_value.proofs.RowSets.{is_set_of, length-set_of-le, set_of-append_set}
use Rattle.blz_value.proofs.SetLaws.{sorted_set_of, Has-set_of, Has-from_set_of}
use Rattle.blz_set.specs.Missing.{has_row}
use Rattle.blz_set.specs.RecordSet.{row_limit, IsRecordSet}
use Rattle.blz_set.proofs.RecordSets.{Has-from_has_row, has_row-from_Has, has_row-from_lacks}
use Rattle.blz_set.proofs.Unions.{length_union}
use Rattle.bloom_growth.specs.Growth.{IsRowOrder, TakesRow}
use Rattle.bloom_growth.proofs.BagsLemmas.{extends_none}

module _ (old : List Row) (row : Row) (own : IsRecordSet old) where
  lone : IsRowSet (row ∷ [])
  lone = sorted_set_of (row ∷ [])

  -- it is there
  pub row_held : Has row old → TakesRow old row old (Ok false)
  row_held held = (
    is_set_of old (old ++ row ∷ []) own.sorted (
      λ q h. Has-append_left q old (row ∷ []) h,
      λ q h. elim (Has-append_cases q old (row ∷ []) h) [ inl a ↦ a | inr b ↦ elim b [ inl e ↦ subst (λ (r : Row). Has r old) e held | inr none ↦ absurd none ] ],
    ),
    own.small,
    extends_none old [] own.sorted refl,
  )

  -- it isn't
  pub row_new : (new : List Row) → ¬ Has row old → new ≡ set_of (old ++ row ∷ []) → length old < row_limit → TakesRow old row new (Ok true)
  row_new new lacks is room = (
    is,
    omega (arith, ap length is, length-set_of-le (old ++ row ∷ []), length-append old (row ∷ [])),
    record {
      sorted = own.sorted;
      fresh_sorted = lone;
      all = is;
      apart = λ q h held. elim h [ inl e ↦ lacks (subst (λ (r : Row). Has r old) (sym e) held) | inr none ↦ absurd none ];
    },
  )

  -- it makes them one more
  pub row_more : has_row old row ≡ false → length (set_of (old ++ row ∷ [])) ≡ length old + 1
  row_more lacks = length_union old (row ∷ []) own.sorted lone ∙ ap (λ (b : Bool). length old + length (cond (not b) (row ∷ []) [])) lacks

  -- there is no room for it
  pub row_over : has_row old row ≡ false → row_limit ≤ length old → row_limit < length (set_of (old ++ row ∷ []))
  row_over lacks full = let more = row_more lacks in omega (arith, full, more)

-- rows in any order, of which a set finds each by its hash
module _ (keys : List Row) (order : IsRowOrder keys) where
  pub order_is_set : IsRecordSet (set_of keys)
  order_is_set = record { sorted = sorted_set_of keys; small = omega (arith, order.once, order.few) }

  pub has_same : (row : Row) → has_row (set_of keys) row ≡ has_row keys row
  has_same row = elim (cases_Bool (has_row keys row)) [
    | inl t ↦ has_row-from_Has (set_of keys) row (Has-set_of row keys (Has-from_has_row keys row t)) ∙ sym t
    | inr f ↦ has_row-from_lacks (set_of keys) row (λ h. true≢false (sym (has_row-from_Has keys row (Has-from_set_of row keys h)) ∙ f)) ∙ sym f
  ]

  -- where one is put that is there they stay, and any other goes last
  pub puts : (row : Row) (new : List Row) (added : Bool) → new ≡ insert_key (eq_by_cmp record_cmp) keys row → added ≡ not (has_row keys row) → (has_row keys row ≡ false → length keys < row_limit)
      → IsRowOrder new × TakesRow (set_of keys) row (set_of new) (Ok added)
  puts row new added put is room = elim (cases_Bool (has_row keys row)) [
    | inl t ↦
        let same : new ≡ keys = put ∙ ap (λ (b : Bool). if b then keys else keys ++ row ∷ []) t in
        let held : Has row (set_of keys) = Has-set_of row keys (Has-from_has_row keys row t) in (
          subst IsRowOrder (sym same) order,
          subst (λ (b : Bool). TakesRow (set_of keys) row (set_of new) (Ok b)) (sym (is ∙ ap not t))
              (subst (λ (l : List Row). TakesRow (set_of keys) row (set_of l) (Ok false)) (sym same) (row_held (set_of keys) row order_is_set held)),
        )
    | inr f ↦
        let more : new ≡ keys ++ row ∷ [] = put ∙ ap (λ (b : Bool). if b then keys else keys ++ row ∷ []) f in
        let lacks : has_row (set_of keys) row ≡ false = has_same row ∙ f in
        let all : set_of new ≡ set_of (set_of keys ++ row ∷ []) = ap set_of more ∙ sym (set_of-append_set keys (row ∷ [])) in
        let long : length new ≡ length keys + 1 = ap (length {A = Row}) more ∙ length-append keys (row ∷ []) in
        let longer : length (set_of new) ≡ length (set_of keys) + 1 = ap (length {A = Row}) all ∙ row_more (set_of keys) row order_is_set lacks in
        let few = room f in (
          record { once = omega (arith, long, longer, order.once); few = omega (arith, long, few) },
          subst (λ (b : Bool). TakesRow (set_of keys) row (set_of new) (Ok b)) (sym (is ∙ ap not f))
              (row_new (set_of keys) row order_is_set (set_of new) (λ h. true≢false (sym (has_row-from_Has (set_of keys) row h) ∙ lacks)) all (omega (arith, few, order.once))),
        )
  ]
