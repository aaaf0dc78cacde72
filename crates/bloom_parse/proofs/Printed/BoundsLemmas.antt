-- What is printed of an expression within the bounds is within them.
use Rattle.std.proofs.Common.{◌≡◌, ◌≢◌, ◌≤◌, ◌+◌, ◌&&◌, ℕ, zero, suc, ℤ, pos, ◌≤ℤ◌, int_lt, true, false, nat_lt, List, [], ◌∷◌, map, length, refl, sym, ◌∙◌, arith, rules}
use Rattle.std.specs.List.{list_any}
use Rattle.std.proofs.lemmas.Grind.{common_steps}
use Rattle.std.proofs.lemmas.List.Folds.{list_any-append}
use Rattle.blz_value.proofs.Booleans.{both_true, neither}
use Rattle.bloom_forms.specs.Bounds as bounds
use Rattle.bloom_forms.specs.Bounds.{is_long, formulas_of, query_levels}
use Rattle.bloom_forms.specs.Columns.{columns_of}
use Rattle.bloom_forms.specs.Fits.{is_width, are_columns, operator_fits, part_fits, query_fits, keys_fit}
use Rattle.bloom_forms.specs.Query.{Name, Formula, Query}
use Rattle.bloom_forms.specs.Query.Formula.{compare, both, either, not_so}
use Rattle.bloom_forms.specs.Query.Query.{base, select, project, join, notin, group, at_least}
use Rattle.bloom_parse.specs.Bounds.{HasPositiveBounds}
use Rattle.bloom_parse.specs.Layout.{Levels, levels, tree_of}
use Rattle.bloom_parse.specs.Printable.{HasItems}
use Rattle.bloom_parse.specs.Trees.{UnitFits, AndsFit, OrsFit, unit_size, ands_size, ors_size, ExprFits}

-- ---- predicates

-- as a whole it opens its own levels, and as a part of `and` those of its parentheses too, where it needs them
abbrev FitsOf : Formula → Levels → ℕ → Type 0
FitsOf f l room =
    (bounds.levels f ≤ room → OrsFit room l.ors)
    × (bounds.within (bounds.is_either f) (bounds.levels f) ≤ room → AndsFit room l.ands)
    × (bounds.within (bounds.is_joined f) (bounds.levels f) ≤ room → UnitFits room l.unit)

levels_fit : (f : Formula) (room : ℕ) → FitsOf f (levels f) room
levels_fit (compare l o r) zero = (λ h. tt, λ h. tt, λ h. tt)
levels_fit (compare l o r) (suc room) = (λ h. tt, λ h. tt, λ h. tt)
levels_fit (not_so f) zero = (λ h. absurd (omega (arith, h)), λ h. absurd (omega (arith, h)), λ h. absurd (omega (arith, h)))
levels_fit (not_so f) (suc room) = let part = (levels_fit f room).2 in (λ h. part (omega (arith, h)), λ h. part (omega (arith, h)), λ h. part (omega (arith, h)))
levels_fit (both f g) zero =
    let a = (levels_fit f zero).1 in
    let b = (levels_fit g zero).2 in
    (λ h. (a (omega (arith, h)), b (omega (arith, h))), λ h. (a (omega (arith, h)), b (omega (arith, h))), λ h. absurd (omega (arith, h)))
levels_fit (both f g) (suc room) =
    let a = (levels_fit f (suc room)).1 in
    let b = (levels_fit g (suc room)).2 in
    (λ h. (a (omega (arith, h)), b (omega (arith, h))), λ h. (a (omega (arith, h)), b (omega (arith, h))), λ h. ((levels_fit f room).1 (omega (arith, h)), (levels_fit g room).2 (omega (arith, h))))
levels_fit (either f g) zero =
    (λ h. ((levels_fit f zero).0 (omega (arith, h)), (levels_fit g zero).1 (omega (arith, h))), λ h. absurd (omega (arith, h)), λ h. absurd (omega (arith, h)))
levels_fit (either f g) (suc room) =
    let a = (levels_fit f room).0 in
    let b = (levels_fit g room).1 in
    (λ h. ((levels_fit f (suc room)).0 (omega (arith, h)), (levels_fit g (suc room)).1 (omega (arith, h))), λ h. (a (omega (arith, h)), b (omega (arith, h))), λ h. (a (omega (arith, h)), b (omega (arith, h))))

-- each of the three trees has the comparisons of the predicate
abbrev SizesOf : Formula → Levels → Type 0
SizesOf f l = (ors_size l.ors ≡ bounds.comparisons f) × (ands_size l.ands ≡ bounds.comparisons f) × (unit_size l.unit ≡ bounds.comparisons f)

pub levels_count : (f : Formula) → SizesOf f (levels f)
levels_count (compare l o r) = (refl, refl, refl)
levels_count (not_so f) = let e = (levels_count f).2 in (e, e, e)
levels_count (both f g) = let e : ands_size (levels f).ands + unit_size (levels g).unit ≡ bounds.comparisons f + bounds.comparisons g = omega (arith, (levels_count f).1, (levels_count g).2) in (e, e, e)
levels_count (either f g) = let e : ors_size (levels f).ors + ands_size (levels g).ands ≡ bounds.comparisons f + bounds.comparisons g = omega (arith, (levels_count f).0, (levels_count g).1) in (e, e, e)

few : (f : Formula) → is_long f ≡ false → ors_size (levels f).ors ≤ 32
few f e = let short : nat_lt 32 (bounds.comparisons f) ≡ false = (neither (nat_lt 32 (bounds.comparisons f)) (bounds.has_long_literal f) e).0 in let same = (levels_count f).0 in grind (arith, common_steps, short, same)

-- ---- expressions

-- neither part has a long predicate
pub short_parts : (a b : Query) → list_any is_long (formulas_of (join a b [])) ≡ false → (list_any is_long (formulas_of a) ≡ false) × (list_any is_long (formulas_of b) ≡ false)
short_parts a b e = neither (list_any is_long (formulas_of a)) (list_any is_long (formulas_of b)) (sym (list_any-append is_long (formulas_of a) (formulas_of b)) ∙ e)

pub some_columns : {X : Type 0} (xs : List X) → is_width (length xs) ≡ true → xs ≢ []
some_columns [] e = cc
some_columns (x ∷ xs) e = λ same. cc

project_room : (q : Query) (items : List (Name × Name)) (room : ℕ) → ExprFits room (tree_of q) → ExprFits (suc room) (tree_of (project q items))
project_room q [] room h = h
project_room q (i ∷ items) room h = h

no_project : (q : Query) (items : List (Name × Name)) → suc (query_levels q) ≤ 0 → ExprFits 0 (tree_of (project q items))
no_project q items h = absurd (omega (arith, h))

-- what is printed of an expression within the bounds is within them
pub tree_fits : (q : Query) (room : ℕ) → query_levels q ≤ room → list_any is_long (formulas_of q) ≡ false → HasPositiveBounds q → ExprFits room (tree_of q)
tree_fits (base name) zero h l b = tt
tree_fits (base name) (suc room) h l b = tt
tree_fits (select q f) zero h l b = absurd (omega (arith, h))
tree_fits (select q f) (suc room) h l b =
    let long = neither (is_long f) (list_any is_long (formulas_of q)) l in
    (tree_fits q room (omega (arith, h)) long.1 b, (levels_fit f room).0 (omega (arith, h)), few f long.0)
tree_fits (project q items) zero h l b = no_project q items h
tree_fits (project q items) (suc room) h l b = project_room q items room (tree_fits q room (omega (arith, h)) l b)
tree_fits (join a c pairs) zero h l b = absurd (omega (arith, h))
tree_fits (join a c pairs) (suc room) h l b =
    let long = short_parts a c l in
    (tree_fits a room (omega (arith, h)) long.0 b.0, tree_fits c room (omega (arith, h)) long.1 b.1)
tree_fits (notin a c pairs) zero h l b = absurd (omega (arith, h))
tree_fits (notin a c pairs) (suc room) h l b =
    let long = short_parts a c l in
    (tree_fits a room (omega (arith, h)) long.0 b.0, tree_fits c room (omega (arith, h)) long.1 b.1)
tree_fits (group q keys agg name) zero h l b = absurd (omega (arith, h))
tree_fits (group q keys agg name) (suc room) h l b = tree_fits q room (omega (arith, h)) l b
tree_fits (at_least q keys bound) zero h l b = absurd (omega (arith, h))
tree_fits (at_least q keys bound) (suc room) h l b = (tree_fits q room (omega (arith, h)) l b.0, b.1)

pub low : (n : ℕ) → nat_lt 32 n ≡ false → n ≤ 32
low n e = grind (arith, common_steps, e)

module _ (declared : Name → List Name) where
  abbrev Fit : Query → Type 0
  Fit q = query_fits declared q ≡ true

  -- an expression's part, and what the operator wants
  part_of : (q whole : Query) → (query_fits declared q && part_fits declared whole) ≡ true → Fit q × (operator_fits declared whole ≡ true) × (are_columns (columns_of declared whole) ≡ true)
  part_of q whole e =
      let parts = both_true (query_fits declared q) (part_fits declared whole) e in
      let own = both_true (operator_fits declared whole) (are_columns (columns_of declared whole)) parts.1 in
      (parts.0, own.0, own.1)

  parts_of : (a b whole : Query) → (query_fits declared a && (query_fits declared b && part_fits declared whole)) ≡ true → Fit a × Fit b
  parts_of a b whole e =
      let parts = both_true (query_fits declared a) (query_fits declared b && part_fits declared whole) e in
      (parts.0, (both_true (query_fits declared b) (part_fits declared whole) parts.1).0)

  positive : (bound : ℤ) → int_lt (pos 0) bound ≡ true → pos 1 ≤ℤ bound
  positive bound e = search rules

  -- the integer of each atleast is 1 or more
  pub has_bounds : (q : Query) → Fit q → HasPositiveBounds q
  has_bounds (base name) e = tt
  has_bounds (select q f) e = has_bounds q (part_of q (select q f) e).0
  has_bounds (project q items) e = has_bounds q (part_of q (project q items) e).0
  has_bounds (join a b pairs) e = let fit = parts_of a b (join a b pairs) e in (has_bounds a fit.0, has_bounds b fit.1)
  has_bounds (notin a b pairs) e = let fit = parts_of a b (notin a b pairs) e in (has_bounds a fit.0, has_bounds b fit.1)
  has_bounds (group q keys agg name) e = has_bounds q (part_of q (group q keys agg name) e).0
  has_bounds (at_least q keys bound) e =
      let own = part_of q (at_least q keys bound) e in
      (has_bounds q own.0, positive bound (both_true (keys_fit (columns_of declared q) keys) (int_lt (pos 0) bound) own.1).1)

  some_items : (items : List (Name × Name)) → are_columns (map (λ item. item.1) items) ≡ true → items ≢ []
  some_items [] e = cc
  some_items (i ∷ items) e = λ same. cc

  -- each project has a column
  pub has_items : (q : Query) → Fit q → HasItems q
  has_items (base name) e = tt
  has_items (select q f) e = has_items q (part_of q (select q f) e).0
  has_items (project q items) e = let own = part_of q (project q items) e in (has_items q own.0, some_items items own.2)
  has_items (join a b pairs) e = let fit = parts_of a b (join a b pairs) e in (has_items a fit.0, has_items b fit.1)
  has_items (notin a b pairs) e = let fit = parts_of a b (notin a b pairs) e in (has_items a fit.0, has_items b fit.1)
  has_items (group q keys agg name) e = has_items q (part_of q (group q keys agg name) e).0
  has_items (at_least q keys bound) e = has_items q (part_of q (at_least q keys bound) e).0
