-- The columns of a join, whose right ones that stand in no pair are found one by one.
use Rattle.std.specs.Prelude.{if◌then◌else◌}
use Rattle.std.proofs.Common.{◌≡◌, ◌||◌, ◌==◌, ◌+◌, ◌++◌, not, ℕ, List, [], ◌∷◌, map, refl, ap, sym, inl, inr, Bool}
use Rattle.std.specs.List.{filter, enumerate_from}
use Rattle.std.proofs.lemmas.Bool.{cases_Bool}
use Rattle.blz_value.specs.Operators.{is_paired}
use Rattle.bloom_forms.specs.Code.Paired.{is_in_pair}
use Rattle.bloom_forms.specs.Columns.{column_number, pair_numbers, joined_columns}
use Rattle.bloom_forms.specs.Query.{Name}

-- the right columns that stand in no pair, from the number on
abbrev pub others_from : List Name → List (Name × Name) → ℕ → List Name → List Name
others_from right pairs number [] = []
others_from right pairs number (name ∷ names) = if is_in_pair right pairs number then others_from right pairs (number + 1) names else name ∷ others_from right pairs (number + 1) names

in_pair : (left right : List Name) (pairs : List (Name × Name)) (number : ℕ) → is_paired (pair_numbers left right pairs) number ≡ is_in_pair right pairs number
in_pair left right [] number = refl
in_pair left right (pair ∷ pairs) number = ap (λ (b : Bool). (column_number right pair.1 == number) || b) (in_pair left right pairs number)

others : (left right : List Name) (pairs : List (Name × Name)) (number : ℕ) (names : List Name) → map (λ place. place.1) (filter (λ place. not (is_paired (pair_numbers left right pairs) place.0)) (enumerate_from number names)) ≡ others_from right pairs number names
others left right pairs number [] = refl
others left right pairs number (name ∷ names) = elim (cases_Bool (is_in_pair right pairs number)) [
  | inl t ↦ rw (in_pair left right pairs number, t) (others left right pairs (number + 1) names)
  | inr f ↦ rw (in_pair left right pairs number, f) (ap (λ (l : List Name). name ∷ l) (others left right pairs (number + 1) names))
]

pub joined-others : (left right : List Name) (pairs : List (Name × Name)) → left ++ others_from right pairs 0 right ≡ joined_columns left right pairs
joined-others left right pairs = ap (λ (l : List Name). left ++ l) (sym (others left right pairs 0 right))
