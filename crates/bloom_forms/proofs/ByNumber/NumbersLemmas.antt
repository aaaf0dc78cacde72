-- Lists made of numbers from 0 on, and the numbers of the collections of a kind.
use Rattle.std.proofs.Common.{◌≡◌, ◌+◌, ℕ, suc, Bool, true, false, cond, List, [], ◌∷◌, length, map, filter, get_or, refl, ap, ◌∙◌, arith}
use Rattle.std.specs.List.{range_with_len, enumerate_from}
use Rattle.bloom_forms.specs.declared.module.Kind.{Kind}
use Rattle.bloom_forms.specs.declared.module.Collection.{Collection}
use Rattle.bloom_forms.specs.Kinds.{same_kind, of_kind}
use Rattle.bloom_forms.specs.Program.{columns_of_kind}
use Rattle.bloom_forms.specs.KindNumbers.{numbers_of_kind}

-- a list told by its places
by_places : {X Y : Type 0} (h : ℕ → Y) (g : X → Y) (d : X) (at : ℕ) (xs : List X) → ((k : ℕ) → h (at + k) ≡ g (get_or xs k d)) → map h (range_with_len at (length xs)) ≡ map g xs
by_places h g d at [] is = refl
by_places h g d at (x ∷ xs) is =
    let first : at ≡ at + 0 = omega arith in
    let more = by_places h g d (at + 1) xs (λ k. let next : (at + 1) + k ≡ at + suc k = omega arith in ap h next ∙ is (suc k)) in
    λ i. (ap h first ∙ is 0) i ∷ more i

pub map-places : {X Y : Type 0} (g : X → Y) (d : X) (xs : List X) (n : ℕ) → n ≡ length xs → map (λ k. g (get_or xs k d)) (range_with_len 0 n) ≡ map g xs
map-places g d xs n is = ap (λ (m : ℕ). map (λ (k : ℕ). g (get_or xs k d)) (range_with_len 0 m)) is ∙ by_places (λ (k : ℕ). g (get_or xs k d)) g d 0 xs (λ k. let same : 0 + k ≡ k = omega arith in ap (λ (m : ℕ). g (get_or xs m d)) same)

-- there are as many numbers as collections
length-numbers_from : (kind : Kind) (at : ℕ) (cs : List Collection) → length (columns_of_kind kind cs) ≡ length (map (λ (place : ℕ × Collection). place.0) (filter (λ (place : ℕ × Collection). same_kind kind place.1.kind) (enumerate_from at cs)))
length-numbers_from kind at [] = refl
length-numbers_from kind at (c ∷ cs) = by (same_kind kind c.kind) (length-numbers_from kind (at + 1) cs)
  where
    later : List (ℕ × Collection)
    later = filter (λ (place : ℕ × Collection). same_kind kind place.1.kind) (enumerate_from (at + 1) cs)

    by : (b : Bool) → length (columns_of_kind kind cs) ≡ length (map (λ (place : ℕ × Collection). place.0) later)
        → length (map (λ (d : Collection). d.columns) (cond b (c ∷ of_kind kind cs) (of_kind kind cs))) ≡ length (map (λ (place : ℕ × Collection). place.0) (cond b ((at, c) ∷ later) later))
    by true more = ap suc more
    by false more = more

pub length_numbers_of_kind : (kind : Kind) (cs : List Collection) → length (columns_of_kind kind cs) ≡ length (numbers_of_kind kind cs)
length_numbers_of_kind kind cs = length-numbers_from kind 0 cs
