-- Attributes grow with the columns that are added.
use Rattle.std.proofs.Common.{◌≡◌, ◌≤◌, ◌<◌, ◌+◌, ℕ, Bool, true, false, if◌then◌else◌, is_some, Option, Some, None, IsNone, List, [], ◌∷◌, ◌++◌, length, drop, get_or, nat_le, refl, arith, ap, sym, ◌∙◌, subst, length-append}
use Rattle.std.proofs.lemmas.Bool.Decides.{nat_tests}
use Rattle.std.proofs.lemmas.List.Sums.{fold-append}
use Rattle.blz_value.specs.Members.{Has}
use Rattle.blz_value.specs.Names.{added, place_of}
use Rattle.blz_value.proofs.Places.{place_of-new}
use Rattle.blz_value.proofs.Lists.{rest_is}
use Rattle.topo_forms.specs.declared.topology.Side.{Side}
use Rattle.bloom_forms.specs.Query.{Name}
use Rattle.topo_forms.specs.Attributes.{with_columns, side_columns}

length-kept : (names : List Name) (name : Name) (b : Bool) → length names ≤ length (if b then names else names ++ name ∷ [])
length-kept names name true = omega arith
length-kept names name false = omega (arith, length-append names (name ∷ []))

length-added : (names : List Name) (name : Name) → length names ≤ length (added names name)
length-added names name = length-kept names name (is_some (place_of names name))

pub length-with_columns : (names columns : List Name) → length names ≤ length (with_columns names columns)
length-with_columns names [] = omega arith
length-with_columns names (c ∷ columns) = omega (arith, length-added names c, length-with_columns (added names c) columns)

-- a new name beside 64 is one too many, whatever comes after it
pub length-full : (names : List Name) (name : Name) (columns : List Name) → place_of names name ≡ None → length names ≡ 64 → 64 < length (with_columns names (name ∷ columns))
length-full names name columns new full =
    let all = length-with_columns (names ++ name ∷ []) columns in
    let more : 64 < length (with_columns (names ++ name ∷ []) columns) = omega (arith, all, full, length-append names (name ∷ [])) in
    rw new more

length-with_columns-append : (names xs ys : List Name) → length (with_columns names xs) ≤ length (with_columns names (xs ++ ys))
length-with_columns-append names xs ys = rw (fold-append added names xs ys) (length-with_columns (with_columns names xs) ys)

no_place : (o : Option ℕ) → IsNone o → o ≡ None
no_place None e = refl
no_place (Some place) e = cc

-- a name that isn't held has no place
pub place_of_new : (names : List Name) (name : Name) → (Has name names → ⊥) → place_of names name ≡ None
place_of_new names name new = no_place (place_of names name) (place_of-new names name new)

too_long : (n : ℕ) → 64 < n → false ≡ nat_le n 64
too_long n more = grind (arith, nat_tests)

-- at the 65th name the columns don't fit
pub full_at_name : (names columns whole : List Name) (i : ℕ) (name : Name) → with_columns names (drop i columns) ≡ whole → i < length columns → name ≡ get_or columns i name → place_of names name ≡ None → length names ≡ 64 → false ≡ nat_le (length whole) 64
full_at_name names columns whole i name rest below is new full =
    let e : with_columns names (name ∷ drop (i + 1) columns) ≡ whole = ap (with_columns names) (sym (rest_is columns i name below is)) ∙ rest in
    too_long (length whole) (subst (λ v. 64 < length v) e (length-full names name (drop (i + 1) columns) new full))

-- at a port whose columns don't fit those of all ports don't
pub full_at_port : (names whole : List Name) (ports : List Side) (i : ℕ) (port : Side) → with_columns names (side_columns (drop i ports)) ≡ whole → i < length ports → port ≡ get_or ports i port → nat_le (length (with_columns names port.columns)) 64 ≡ false → false ≡ nat_le (length whole) 64
full_at_port names whole ports i port rest below is full =
    let e : with_columns names (side_columns (port ∷ drop (i + 1) ports)) ≡ whole = ap (λ v. with_columns names (side_columns v)) (sym (rest_is ports i port below is)) ∙ rest in
    let more : 64 < length (with_columns names port.columns) = grind (arith, nat_tests) in
    let all = length-with_columns-append names port.columns (side_columns (drop (i + 1) ports)) in
    too_long (length whole) (subst (λ v. 64 < length v) e (omega arith))
