-- The values on a side, compared and hashed where they stand, and the numbers of sides.
use Rattle.std.proofs.Common.{◌≡◌, ◌≢◌, ℕ, zero, suc, ◌+◌, ◌<◌, Bool, true, false, cond, not, ◌&&◌, None, Some, List, [], ◌∷◌, ◌++◌, map, length, get_or, take, drop, refl, ap, sym, ◌∙◌, inl, inr, arith, if◌then◌else◌}
use Rattle.std.specs.Hash.{HashWrites}
use Rattle.std.specs.List.{list_any, fold, position_from, position_or_len}
use Rattle.std.proofs.lemmas.Bool.{cases_Bool}
use Rattle.std.proofs.lemmas.Grind.{flat_map-append, fold-append}
use Rattle.std.proofs.lemmas.List.{append-nil, length-map, map-append, take_more}
use Rattle.blz_value.specs.Record.{Row}
use Rattle.blz_value.specs.Test.{cell}
use Rattle.blz_value.specs.Hash.{record_writes, value_writes}
use Rattle.indexmap.specs.IndexSet.{insert_key}
use Rattle.data_read.specs.declared.dependencies.sides.Side.{Side}
use Rattle.data_read.specs.Broken.{same}
use Rattle.data_read.specs.Code.Earliest.{IsRowAt, if_known, number_of, values_of, with_side}
use Rattle.data_read.proofs.EarliestLemmas.{same-is}

-- ---- two sides

-- the values of a side from a place on
abbrev pub values_from : Side → ℕ → Row
values_from side k = map (cell side.row.now) (drop k side.places.now)

pub other_length : (a b : Side) → length a.places.now ≢ length b.places.now → false ≡ same (values_of a) (values_of b)
other_length a b apart = go (same (values_of a) (values_of b)) refl
  where
    go : (t : Bool) → same (values_of a) (values_of b) ≡ t → false ≡ t
    go false e = refl
    go true e = absurd (apart (sym (length-map a.places.now (cell a.row.now)) ∙ ap length (same-is (values_of a) (values_of b) e) ∙ length-map b.places.now (cell b.row.now)))

same_at : (sides : List Side) (n : ℕ) (d e : Side) → n < length sides → get_or sides n d ≡ get_or sides n e
same_at [] n d e lt = absurd (omega arith)
same_at (x ∷ xs) zero d e lt = refl
same_at (x ∷ xs) (suc n) d e lt = same_at xs n d e (omega arith)

pub row_of_side : (sides : List Side) (n : ℕ) (side : Side) → n < length sides → side ≡ get_or sides n side → IsRowAt sides n side.row.now
row_of_side sides n side lt is other = ap (λ (s : Side). s.row.now) (is ∙ same_at sides n side other lt)

-- ---- what a hasher is fed

pub fed_more : {S : Type 0} (write : S → List ℕ → S) (s : S) (row : Row) (places : List ℕ) (i place : ℕ) → i < length places → place ≡ get_or places i place
    → fold write s (record_writes (map (cell row) (take (i + 1) places))) ≡ fold write (fold write s (record_writes (map (cell row) (take i places)))) (value_writes (cell row place))
fed_more write s row places i place lt is =
    ap (λ (ps : List ℕ). fold write s (record_writes (map (cell row) ps))) (take_more places i place lt ∙ ap (λ (p : ℕ). take i places ++ p ∷ []) (sym is))
    ∙ ap (λ (vs : Row). fold write s (record_writes vs)) (map-append (cell row) (take i places) (place ∷ []))
    ∙ ap (fold write s) (flat_map-append value_writes (map (cell row) (take i places)) (cell row place ∷ []))
    ∙ ap (λ (ws : HashWrites). fold write s (record_writes (map (cell row) (take i places)) ++ ws)) (append-nil (value_writes (cell row place)))
    ∙ fold-append write s (record_writes (map (cell row) (take i places))) (value_writes (cell row place))

-- ---- numbers

-- whether a side is known, and where the first like it stands, are its number
numbered : (test : Side → Bool) (i : ℕ) (xs : List Side) → (if list_any test xs then Some (i + position_or_len test xs) else None) ≡ position_from test i xs
numbered test i [] = refl
numbered test i (x ∷ xs) = elim (cases_Bool (test x)) [
  | inl t ↦ (let here : i + 0 ≡ i = omega arith in rw t (ap Some here))
  | inr f ↦ rw f (shift (list_any test xs) (position_or_len test xs) ∙ numbered test (i + 1) xs)
]
  where
    shift : (b : Bool) (n : ℕ) → (if b then Some (i + (1 + n)) else None) ≡ (if b then Some (i + 1 + n) else None)
    shift true n = ap Some (omega arith)
    shift false n = refl

abbrev alike : Side → Side → Bool
alike a b = same (values_of a) (values_of b)

pub is_number : (sides : List Side) (side : Side) (n : ℕ) (new : Bool) → new ≡ not (list_any (alike side) sides) → n ≡ position_or_len (alike side) sides
    → if_known n new ≡ number_of sides (values_of side)
is_number sides side n new is at = ap (λ b. if_known n b) is ∙ ap (λ k. if_known k (not (list_any (alike side) sides))) at ∙ turned (list_any (alike side) sides) (position_or_len (alike side) sides) ∙ numbered (alike side) 0 sides
  where
    turned : (b : Bool) (k : ℕ) → if_known k (not b) ≡ (if b then Some (0 + k) else None)
    turned true k = ap Some (omega arith)
    turned false k = refl

pub is_kept : (sides : List Side) (side : Side) (n : ℕ) (new : Bool) (kept : List Side) → new ≡ not (list_any (alike side) sides) → kept ≡ insert_key alike sides side
    → kept ≡ with_side (if_known n new) sides side
is_kept sides side n new kept is e = e ∙ both (list_any (alike side) sides) ∙ ap (λ b. with_side (if_known n b) sides side) (sym is)
  where
    both : (b : Bool) → (if b then sides else sides ++ side ∷ []) ≡ with_side (if_known n (not b)) sides side
    both true = refl
    both false = refl

numbers-map : {X : Type 0} (f : X → Row) (key : Row) (i : ℕ) (xs : List X) → position_from (λ x. same key (f x)) i xs ≡ position_from (same key) i (map f xs)
numbers-map f key i [] = refl
numbers-map f key i (x ∷ xs) = ap (cond (same key (f x)) (Some i)) (numbers-map f key (i + 1) xs)

-- lists with the same values have the same numbers
pub same_numbers : {X Y : Type 0} (f : X → Row) (g : Y → Row) (key : Row) (xs : List X) (ys : List Y) → map f xs ≡ map g ys
    → position_from (λ x. same key (f x)) 0 xs ≡ position_from (λ y. same key (g y)) 0 ys
same_numbers f g key xs ys e = numbers-map f key 0 xs ∙ ap (position_from (same key) 0) e ∙ sym (numbers-map g key 0 ys)
