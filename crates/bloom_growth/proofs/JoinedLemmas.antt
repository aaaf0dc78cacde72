-- Rows of one width that agree make a joined row that no other such rows make.
use Rattle.std.proofs.Common.{◌≡◌, ◌==◌, ℕ, ◌+◌, suc, not, Bool, true, false, cond, List, [], ◌∷◌, ◌++◌, length, map, filter, slice_index_or, pos, refl, ap, ◌∙◌, sym, arith}
use Rattle.std.specs.declared.cmp.Ordering.{Ordering}
use Rattle.std.specs.declared.cmp.Ordering.TheVariants.{Less, Equal, Greater}
use Rattle.std.specs.Ordering.{is_eq, eq_by_cmp}
use Rattle.std.specs.List.{enumerate_from}
use Rattle.std.proofs.lemmas.Bool.{eqb-true}
use Rattle.blz_value.specs.declared.value.Value.{Value}
use Rattle.blz_value.specs.declared.value.Value.TheVariants.{Int}
use Rattle.blz_value.specs.Members.{Has}
use Rattle.blz_value.specs.Operators.{Pairs, agree, is_paired, joined}
use Rattle.blz_value.specs.Record.{Row}
use Rattle.blz_value.specs.Test.{cell}
use Rattle.blz_value.specs.Value.{value_cmp}
use Rattle.blz_value.specs.ValueOrder.{value_cmp_exact}
use Rattle.blz_value.proofs.Membership.{all_member, Has-from_any}
use Rattle.blz_set.proofs.Joins.{unpaired_from}

split_same : {X : Type 0} (xs ys us vs : List X) → length xs ≡ length ys → xs ++ us ≡ ys ++ vs → (xs ≡ ys) × (us ≡ vs)
split_same [] [] us vs e h = (refl, h)
split_same [] (y ∷ ys) us vs e h = absurd (omega arith)
split_same (x ∷ xs) [] us vs e h = absurd (omega arith)
split_same (x ∷ xs) (y ∷ ys) us vs e h =
    let first : x ≡ y = cc in
    let rest : xs ++ us ≡ ys ++ vs = cc in
    let many : length xs ≡ length ys = omega arith in
    let parts : (xs ≡ ys) × (us ≡ vs) = split_same xs ys us vs many rest in
    let whole : x ∷ xs ≡ y ∷ ys = ap (λ (v : _). v ∷ xs) first ∙ ap (λ (l : List _). y ∷ l) parts.0 in
    (whole, parts.1)

-- ---- the values whose columns stand in no pair

kept_heads : (b : Bool) (n : ℕ) (x y : Value) (xs ys : List (ℕ × Value)) → b ≡ false → map (λ (place : ℕ × Value). place.1) (cond (not b) ((n, x) ∷ xs) xs) ≡ map (λ (place : ℕ × Value). place.1) (cond (not b) ((n, y) ∷ ys) ys) → x ≡ y
kept_heads true n x y xs ys is e = absurd cc
kept_heads false n x y xs ys is e = cc

kept_tails : (b : Bool) (n : ℕ) (x y : Value) (xs ys : List (ℕ × Value)) → map (λ (place : ℕ × Value). place.1) (cond (not b) ((n, x) ∷ xs) xs) ≡ map (λ (place : ℕ × Value). place.1) (cond (not b) ((n, y) ∷ ys) ys) → map (λ (place : ℕ × Value). place.1) xs ≡ map (λ (place : ℕ × Value). place.1) ys
kept_tails true n x y xs ys e = e
kept_tails false n x y xs ys e = cc

module _ (pairs : Pairs) where
  -- rows are the same whose values in paired columns are, and the others
  same_parts : (n : ℕ) (xs ys : Row) → length xs ≡ length ys → unpaired_from pairs n xs ≡ unpaired_from pairs n ys
      → ((k column : ℕ) → column ≡ n + k → is_paired pairs column ≡ true → slice_index_or xs k (Int (pos 0)) ≡ slice_index_or ys k (Int (pos 0))) → xs ≡ ys
  same_parts n [] [] many e same = refl
  same_parts n [] (y ∷ ys) many e same = absurd (omega arith)
  same_parts n (x ∷ xs) [] many e same = absurd (omega arith)
  same_parts n (x ∷ xs) (y ∷ ys) many e same =
      let places : Row → List (ℕ × Value) = λ (rest : Row). filter (λ (place : ℕ × Value). not (is_paired pairs place.0)) (enumerate_from (n + 1) rest) in
      let first : x ≡ y = by_case (is_paired pairs n) refl in
      let few : length xs ≡ length ys = omega arith in
      let rest : xs ≡ ys = same_parts (n + 1) xs ys few (kept_tails (is_paired pairs n) n x y (places xs) (places ys) e) (λ k column at paired. same (suc k) column (omega (arith, at)) paired) in
      ap (λ (v : Value). v ∷ xs) first ∙ ap (λ (l : Row). y ∷ l) rest
    where
      by_case : (b : Bool) → is_paired pairs n ≡ b → x ≡ y
      by_case true paired = same 0 n (omega arith) paired
      by_case false alone = kept_heads (is_paired pairs n) n x y (filter (λ (place : ℕ × Value). not (is_paired pairs place.0)) (enumerate_from (n + 1) xs)) (filter (λ (place : ℕ × Value). not (is_paired pairs place.0)) (enumerate_from (n + 1) ys)) alone e

  tied : (o : Ordering) → is_eq o ≡ true → o ≡ Equal
  tied Less e = cc
  tied Equal e = refl
  tied Greater e = cc

  -- what a right row has in a paired column, by a left row that agrees with it
  agreed : (left right : Row) (pair : ℕ × ℕ) (column : ℕ) → agree pairs left right ≡ true → Has pair pairs → pair.1 ≡ column → cell right column ≡ cell left pair.0
  agreed left right pair column e stands at =
      let equal = value_cmp_exact (cell left pair.0) (cell right pair.1) (tied (value_cmp (cell left pair.0) (cell right pair.1)) (all_member (λ (p : ℕ × ℕ). eq_by_cmp value_cmp (cell left p.0) (cell right p.1)) pairs pair e stands)) in
      ap (cell right) (sym at) ∙ sym equal

  pub same_joined : (left right other another : Row) → agree pairs left right ≡ true → agree pairs other another ≡ true → length left ≡ length other → length right ≡ length another → joined pairs left right ≡ joined pairs other another → (left ≡ other) × (right ≡ another)
  same_joined left right other another agrees agreeing wide tall e =
      let parts = split_same left other (unpaired_from pairs 0 right) (unpaired_from pairs 0 another) wide e in
      let columns : (k column : ℕ) → column ≡ 0 + k → is_paired pairs column ≡ true → cell right k ≡ cell another k = λ k column at paired.
      let pair = Has-from_any (λ (p : ℕ × ℕ). p.1 == column) pairs paired in
      let place : pair.0.1 ≡ k = eqb-true pair.0.1 column pair.2 ∙ omega (arith, at) in
      agreed left right pair.0 k agrees pair.1 place ∙ ap (λ (l : Row). cell l pair.0.0) parts.0 ∙ sym (agreed other another pair.0 k agreeing pair.1 place)
      in
      (parts.0, same_parts 0 right another tall parts.1 columns)
