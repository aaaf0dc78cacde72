-- A collection of a kind is the one at its place among those of the kind.
use Rattle.std.proofs.Common.{◌≡◌, ◌+◌, ◌<◌, ◌≤◌, ℕ, zero, suc, Bool, true, false, cond, List, [], ◌∷◌, length, get_or, map, filter, slice_get, take, None, Some, refl, ap, ◌∙◌, subst, inl, inr, arith}
use Rattle.std.specs.List.{enumerate_from, zip}
use Rattle.std.proofs.lemmas.Bool.{cases_lt}
use Rattle.std.proofs.lemmas.List.{get_or_past}
use Rattle.blz_value.specs.Members.{Has}
use Rattle.blz_value.specs.Record.{Row}
use Rattle.bloom_forms.proofs.Ends.SameEnds.{one_kind}
use Rattle.bloom_forms.specs.declared.module.Kind.{Kind}
use Rattle.bloom_forms.specs.declared.module.Collection.{Collection}
use Rattle.bloom_forms.specs.Kinds.{same_kind, of_kind, place_in_kind, kind_at}
use Rattle.bloom_forms.specs.Program.{columns_of_kind}
use Rattle.bloom_forms.specs.Step.{Sets, set_at, sets_of_kind}
use Rattle.bloom_forms.specs.KindNumbers.{number_in_kind}
use Rattle.bloom_forms.specs.declared.module.Kind.TheVariants.{Input, Output, Table, Scratch}
use Rattle.bloom_forms.proofs.Collections.KindSets.{get-kind}

-- the columns of a collection, among those of its kind
pub columns-of_kind : (kind : Kind) (cs : List Collection) (k : ℕ) (c : Collection) → slice_get cs k ≡ Some c
    → same_kind kind c.kind ≡ true → get_or (columns_of_kind kind cs) (place_in_kind kind cs k) [] ≡ c.columns
columns-of_kind kind [] k c stands is = cc
columns-of_kind kind (d ∷ cs) zero c stands is = let same : d ≡ c = cc in let yes : same_kind kind d.kind ≡ true = rw same is in rw yes (ap (λ (e : Collection). e.columns) same)
columns-of_kind kind (d ∷ cs) (suc k) c stands is = go (same_kind kind d.kind) (columns-of_kind kind cs k c stands is)
  where
    go : (b : Bool) → get_or (columns_of_kind kind cs) (place_in_kind kind cs k) [] ≡ c.columns
        → get_or (map (λ (e : Collection). e.columns) (cond b (d ∷ of_kind kind cs) (of_kind kind cs))) (length (cond b (d ∷ of_kind kind (take k cs)) (of_kind kind (take k cs)))) [] ≡ c.columns
    go true e = e
    go false e = e

-- the numbers of the collections of a kind, of which the first collection has the number `from`
abbrev numbers_from : Kind → ℕ → List Collection → List ℕ
numbers_from kind from cs = map (λ (place : ℕ × Collection). place.0) (filter (λ (place : ℕ × Collection). same_kind kind place.1.kind) (enumerate_from from cs))

number-from : (past : ℕ) (kind : Kind) (from : ℕ) (cs : List Collection) (k : ℕ) (c : Collection)
    → slice_get cs k ≡ Some c → same_kind kind c.kind ≡ true
    → get_or (numbers_from kind from cs) (place_in_kind kind cs k) past ≡ from + k
number-from past kind from [] k c stands is = cc
number-from past kind from (d ∷ cs) zero c stands is = let same : d ≡ c = cc in let yes : same_kind kind d.kind ≡ true = rw same is in rw yes (omega arith)
number-from past kind from (d ∷ cs) (suc k) c stands is = go (same_kind kind d.kind) (number-from past kind (from + 1) cs k c stands is ∙ omega arith)
  where
    go : (b : Bool) → get_or (numbers_from kind (from + 1) cs) (place_in_kind kind cs k) past ≡ from + suc k
        → get_or (map (λ (place : ℕ × Collection). place.0) (cond b ((from, d) ∷ filter (λ (place : ℕ × Collection). same_kind kind place.1.kind) (enumerate_from (from + 1) cs)) (filter (λ (place : ℕ × Collection). same_kind kind place.1.kind) (enumerate_from (from + 1) cs)))) (length (cond b (d ∷ of_kind kind (take k cs)) (of_kind kind (take k cs)))) past ≡ from + suc k
    go true e = e
    go false e = e

-- the collection at the place of a collection is itself
pub number-place : (kind : Kind) (cs : List Collection) (k : ℕ) (c : Collection) → slice_get cs k ≡ Some c
    → same_kind kind c.kind ≡ true → number_in_kind kind cs (place_in_kind kind cs k) ≡ k
number-place kind cs k c stands is = number-from (length cs) kind 0 cs k c stands is ∙ omega arith

-- a row of a set of a kind is one of the set of a collection
abbrev StandsAt : (past : ℕ) → Kind → ℕ → List Collection → Sets → (place : ℕ) → Row → Type 0
StandsAt past kind from cs sets place row = (k : ℕ) × (get_or (numbers_from kind from cs) place past ≡ from + k) × Has row (set_at sets k)

later : (past : ℕ) (kind : Kind) (from : ℕ) (cs : List Collection) (sets : Sets) (place number : ℕ) (row : Row) (s : List Row)
    → get_or (numbers_from kind (from + 1) cs) place past ≡ number → StandsAt past kind (from + 1) cs sets place row
    → (k : ℕ) × (number ≡ from + k) × Has row (set_at (s ∷ sets) k)
later past kind from cs sets place number row s is stands = (suc stands.0, omega (arith, is, stands.1), stands.2)

row-from : (past : ℕ) (kind : Kind) (from : ℕ) (cs : List Collection) (sets : Sets) (place : ℕ) (row : Row)
    → Has row (set_at (sets_of_kind kind cs sets) place) → StandsAt past kind from cs sets place row
row-from past kind from [] sets place row h = absurd h
row-from past kind from (c ∷ cs) [] place row h = absurd h
row-from past kind from (c ∷ cs) (s ∷ sets) place row h = go (same_kind kind c.kind) place h (row-from past kind (from + 1) cs sets)
  where
    go : (b : Bool) (place : ℕ)
        → Has row (set_at (map (λ (held : Collection × List Row). held.1) (cond b ((c, s) ∷ filter (λ (held : Collection × List Row). same_kind kind held.0.kind) (zip cs sets)) (filter (λ (held : Collection × List Row). same_kind kind held.0.kind) (zip cs sets)))) place)
        → ((p : ℕ) (r : Row) → Has r (set_at (sets_of_kind kind cs sets) p) → StandsAt past kind (from + 1) cs sets p r)
        → (k : ℕ) × (get_or (map (λ (place : ℕ × Collection). place.0) (cond b ((from, c) ∷ filter (λ (place : ℕ × Collection). same_kind kind place.1.kind) (enumerate_from (from + 1) cs)) (filter (λ (place : ℕ × Collection). same_kind kind place.1.kind) (enumerate_from (from + 1) cs)))) place past ≡ from + k) × Has row (set_at (s ∷ sets) k)
    go true zero h more = (0, omega arith, h)
    go true (suc p) h more = later past kind from cs sets p (get_or (numbers_from kind (from + 1) cs) p past) row s refl (more p row h)
    go false p h more = later past kind from cs sets p (get_or (numbers_from kind (from + 1) cs) p past) row s refl (more p row h)

pub row-of_kind : (kind : Kind) (cs : List Collection) (sets : Sets) (place : ℕ) (row : Row)
    → Has row (set_at (sets_of_kind kind cs sets) place) → Has row (set_at sets (number_in_kind kind cs place))
row-of_kind kind cs sets place row h = let stands = row-from (length cs) kind 0 cs sets place row h in let same : stands.0 ≡ number_in_kind kind cs place = omega (arith, stands.1) in subst (λ (k : ℕ). Has row (set_at sets k)) same stands.2

-- ---- collections by their numbers

place_below : (kind : Kind) (cs : List Collection) (k : ℕ) (c : Collection) → slice_get cs k ≡ Some c
    → same_kind kind c.kind ≡ true → place_in_kind kind cs k < length (columns_of_kind kind cs)
place_below kind [] k c stands is = absurd (let bad : None ≡ Some c = stands in cc)
place_below kind (d ∷ cs) zero c stands is = let same : d ≡ c = (let e : Some d ≡ Some c = stands in cc) in let yes : same_kind kind d.kind ≡ true = rw same is in rw yes (omega arith)
place_below kind (d ∷ cs) (suc k) c stands is = go (same_kind kind d.kind) (place_below kind cs k c stands is)
  where
    go : (b : Bool) → place_in_kind kind cs k < length (columns_of_kind kind cs)
        → length (cond b (d ∷ of_kind kind (take k cs)) (of_kind kind (take k cs))) < length (map (λ (c : Collection). c.columns) (cond b (d ∷ of_kind kind cs) (of_kind kind cs)))
    go true lt = omega (arith, lt)
    go false lt = lt

pub kind_self : (kind other : Kind) → other ≡ kind → same_kind kind other ≡ true
kind_self Input Input e = refl
kind_self Output Output e = refl
kind_self Table Table e = refl
kind_self Scratch Scratch e = refl
kind_self Input Output e = cc
kind_self Input Table e = cc
kind_self Input Scratch e = cc
kind_self Output Input e = cc
kind_self Output Table e = cc
kind_self Output Scratch e = cc
kind_self Table Input e = cc
kind_self Table Output e = cc
kind_self Table Scratch e = cc
kind_self Scratch Input e = cc
kind_self Scratch Output e = cc
kind_self Scratch Table e = cc

-- a collection of a kind has a place among those of the kind, and is the one at that place
pub place_within : (kind : Kind) (cs : List Collection) (k : ℕ) → kind_at cs k ≡ Some kind
    → place_in_kind kind cs k < length (columns_of_kind kind cs)
place_within kind cs k is = let c = get-kind cs k kind is in place_below kind cs k c.0 c.1 (kind_self kind c.0.kind c.2)

pub number_at_place : (kind : Kind) (cs : List Collection) (k : ℕ) → kind_at cs k ≡ Some kind
    → number_in_kind kind cs (place_in_kind kind cs k) ≡ k
number_at_place kind cs k is = let c = get-kind cs k kind is in number-place kind cs k c.0 c.1 (kind_self kind c.0.kind c.2)

-- ---- the collection at a place among those of a kind

-- a collection of a kind with this place among them
pub record IsAtPlace (kind : Kind) (cs : List Collection) (place : ℕ) : Type 0 where
  pub number : ℕ
  pub is : kind_at cs number ≡ Some kind
  pub stands : place_in_kind kind cs number ≡ place

pub at_place : (kind : Kind) (cs : List Collection) (place : ℕ) → place < length (columns_of_kind kind cs) → IsAtPlace kind cs place
at_place kind [] place lt = absurd (omega arith)
at_place kind (c ∷ cs) place lt = go (same_kind kind c.kind) refl place lt (at_place kind cs)
  where
    later : (b : Bool) → same_kind kind c.kind ≡ b → (n m : ℕ)
        → length (cond b (c ∷ of_kind kind (take n cs)) (of_kind kind (take n cs))) ≡ m
        → place_in_kind kind (c ∷ cs) (suc n) ≡ m
    later b e n m is = ap (λ (x : Bool). length (cond x (c ∷ of_kind kind (take n cs)) (of_kind kind (take n cs)))) e ∙ is

    go : (b : Bool) → same_kind kind c.kind ≡ b → (p : ℕ)
        → p < length (map (λ (d : Collection). d.columns) (cond b (c ∷ of_kind kind cs) (of_kind kind cs)))
        → ((p : ℕ) → p < length (columns_of_kind kind cs) → IsAtPlace kind cs p) → IsAtPlace kind (c ∷ cs) p
    go true e zero lt more = record { number = 0; is = ap Some (one_kind kind c.kind e); stands = refl }
    go true e (suc p) lt more = let m = more p (omega (arith, lt)) in record { number = suc m.number; is = m.is; stands = later true e m.number (suc p) (ap suc m.stands) }
    go false e p lt more = let m = more p lt in record { number = suc m.number; is = m.is; stands = later false e m.number p m.stands }

pub length-sets_of_kind : (kind : Kind) (cs : List Collection) (sets : Sets)
    → length (sets_of_kind kind cs sets) ≤ length (columns_of_kind kind cs)
length-sets_of_kind kind [] sets = omega arith
length-sets_of_kind kind (c ∷ cs) [] = omega arith
length-sets_of_kind kind (c ∷ cs) (s ∷ sets) = go (same_kind kind c.kind) (length-sets_of_kind kind cs sets)
  where
    go : (b : Bool) → length (sets_of_kind kind cs sets) ≤ length (columns_of_kind kind cs)
        → length (map (λ (held : Collection × List Row). held.1) (cond b ((c, s) ∷ filter (λ (held : Collection × List Row). same_kind kind held.0.kind) (zip cs sets)) (filter (λ (held : Collection × List Row). same_kind kind held.0.kind) (zip cs sets))))
        ≤ length (map (λ (d : Collection). d.columns) (cond b (c ∷ of_kind kind cs) (of_kind kind cs)))
    go true le = omega (arith, le)
    go false le = le

-- an output that has a row is there
pub output_within : (cs : List Collection) (sets : Sets) (output : ℕ) (row : Row)
    → Has row (set_at (sets_of_kind Output cs sets) output) → output < length (columns_of_kind Output cs)
output_within cs sets output row h = elim (cases_lt output (length (columns_of_kind Output cs))) [
  | inl lt ↦ lt
  | inr past ↦ absurd (subst (λ (x : List Row). Has row x) (get_or_past (sets_of_kind Output cs sets) output [] (omega (arith, past, length-sets_of_kind Output cs sets))) h)
]
