-- An expression by numbers has the rows of the expression with its names.
use Rattle.std.proofs.Common.{◌≡◌, ℕ, List, [], ◌∷◌, ◌++◌, length, map, ap, ◌∙◌, sym, subst}
use Rattle.std.proofs.lemmas.List.{map-append}
use Rattle.blz_value.specs.Record.{Row}
use Rattle.blz_value.specs.Sets.{set_of}
use Rattle.blz_value.specs.Test.{TestFits}
use Rattle.blz_value.specs.Operators.{select_rows, project_rows, join_rows, notin_rows}
use Rattle.blz_value.specs.Groups.{group_rows, at_least_rows}
use Rattle.bloom_forms.specs.declared.module.Collection.{Collection}
use Rattle.bloom_forms.specs.declared.numbered.NumberedExpr.{NumberedExpr, Base, Select', Project', Join', NotIn', Group', AtLeast'}
use Rattle.bloom_forms.specs.Query.{Name, Query}
use Rattle.bloom_forms.specs.Query.Query.{base, select, project, join, notin, group, at_least}
use Rattle.bloom_forms.specs.Columns.{columns_of}
use Rattle.bloom_forms.specs.Lookup.{declared}
use Rattle.bloom_forms.specs.Numbered.{IsNumbered}
use Rattle.bloom_forms.specs.Rows.{rows_of}
use Rattle.bloom_forms.specs.Step.{Sets, set_at, rows_named}
use Rattle.bloom_forms.specs.Widths.{AreWide}
use Rattle.bloom_eval.specs.NumberedRows.{numbered_rows, numbered_sets, TestsFit}
use Rattle.bloom_eval.specs.StepAnswers.{parts_of, part_sets}
use Rattle.bloom_forms.proofs.Ends.Wide.{wide_rows}

module _ (cs : List Collection) (sets : Sets) where
  pub same_rows : (q : Query) (e : NumberedExpr) → IsNumbered cs q e → numbered_rows sets e ≡ rows_of (declared cs) (rows_named cs sets) q
  same_rows (base name) (Base number) is = ap (set_at sets) is
  same_rows (select q f) (Select' p e test) is =
      let rows = same_rows q e is.0 in
      λ i. set_of (select_rows (λ row. is.1.same row i) (rows i))
  same_rows (project q items) (Project' p e columns) is =
      let rows = same_rows q e is.0 in
      let numbers = is.1 in
      λ i. set_of (project_rows (numbers i) (rows i))
  same_rows (join a b pairs) (Join' p left r right numbers) is =
      let lefts = same_rows a left is.0 in
      let rights = same_rows b right is.1 in
      let equated = is.2 in
      λ i. set_of (join_rows (equated i) (lefts i) (rights i))
  same_rows (notin a b pairs) (NotIn' p left r right numbers) is =
      let lefts = same_rows a left is.0 in
      let rights = same_rows b right is.1 in
      let equated = is.2 in
      λ i. set_of (notin_rows (equated i) (lefts i) (rights i))
  same_rows (group q keys agg name) (Group' p e numbers by) is =
      let rows = same_rows q e is.0 in
      let columns = is.1 in
      let aggregate = is.2 in
      λ i. set_of (group_rows (columns i) (aggregate i) (rows i))
  same_rows (at_least q keys bound) (AtLeast' p e numbers count) is =
      let rows = same_rows q e is.0 in
      let columns = is.1 in
      let least = is.2 in
      λ i. set_of (at_least_rows (columns i) (least i) (rows i))
  same_rows q e is = absurd is

  both_sets : (a b : Query) (left right : NumberedExpr) → numbered_sets sets left ≡ part_sets (declared cs) (rows_named cs sets) a → numbered_sets sets right ≡ part_sets (declared cs) (rows_named cs sets) b
      → (numbered_sets sets left ++ numbered_sets sets right) ≡ map (rows_of (declared cs) (rows_named cs sets)) (parts_of a ++ parts_of b)
  both_sets a b left right is also = (λ i. is i ++ also i) ∙ sym (map-append (rows_of (declared cs) (rows_named cs sets)) (parts_of a) (parts_of b))

  pub same_sets : (q : Query) (e : NumberedExpr) → IsNumbered cs q e → numbered_sets sets e ≡ part_sets (declared cs) (rows_named cs sets) q
  same_sets (base name) (Base number) is = ap (λ (rows : List Row). rows ∷ []) (same_rows (base name) (Base number) is)
  same_sets (select q f) (Select' p e test) is =
      let own = same_rows (select q f) (Select' p e test) is in
      let more = same_sets q e is.0 in
      λ i. own i ∷ more i
  same_sets (project q items) (Project' p e columns) is =
      let own = same_rows (project q items) (Project' p e columns) is in
      let more = same_sets q e is.0 in
      λ i. own i ∷ more i
  same_sets (join a b pairs) (Join' p left r right numbers) is =
      let own = same_rows (join a b pairs) (Join' p left r right numbers) is in
      let more = both_sets a b left right (same_sets a left is.0) (same_sets b right is.1) in
      λ i. own i ∷ more i
  same_sets (notin a b pairs) (NotIn' p left r right numbers) is =
      let own = same_rows (notin a b pairs) (NotIn' p left r right numbers) is in
      let more = both_sets a b left right (same_sets a left is.0) (same_sets b right is.1) in
      λ i. own i ∷ more i
  same_sets (group q keys agg name) (Group' p e numbers by) is =
      let own = same_rows (group q keys agg name) (Group' p e numbers by) is in
      let more = same_sets q e is.0 in
      λ i. own i ∷ more i
  same_sets (at_least q keys bound) (AtLeast' p e numbers count) is =
      let own = same_rows (at_least q keys bound) (AtLeast' p e numbers count) is in
      let more = same_sets q e is.0 in
      λ i. own i ∷ more i
  same_sets q e is = absurd is

  -- where the collections' rows have their widths, each test fits
  module _ (wide : (name : Name) → AreWide (length (declared cs name)) (rows_named cs sets name)) where
    wide_numbered : (q : Query) (e : NumberedExpr) → IsNumbered cs q e → AreWide (length (columns_of (declared cs) q)) (numbered_rows sets e)
    wide_numbered q e is = subst (λ (rows : List Row). AreWide (length (columns_of (declared cs) q)) rows) (sym (same_rows q e is)) (wide_rows (declared cs) (rows_named cs sets) wide q)

    pub tests_fit : (q : Query) (e : NumberedExpr) → IsNumbered cs q e → TestsFit sets e
    tests_fit (base name) (Base number) is = tt
    tests_fit (select q f) (Select' p e test) is = (tests_fit q e is.0, λ k d lt. subst (λ (n : ℕ). TestFits test n) (sym (wide_numbered q e is.0 k d lt)) is.1.fits)
    tests_fit (project q items) (Project' p e columns) is = tests_fit q e is.0
    tests_fit (join a b pairs) (Join' p left r right numbers) is = (tests_fit a left is.0, tests_fit b right is.1)
    tests_fit (notin a b pairs) (NotIn' p left r right numbers) is = (tests_fit a left is.0, tests_fit b right is.1)
    tests_fit (group q keys agg name) (Group' p e numbers by) is = tests_fit q e is.0
    tests_fit (at_least q keys bound) (AtLeast' p e numbers count) is = tests_fit q e is.0
    tests_fit q e is = absurd is
