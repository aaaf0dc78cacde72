-- The sides of the rules by numbers are those of the module, in the same order, and what is kept of each has its rows.
use Rattle.std.proofs.Common.{◌≡◌, ◌∙◌, ℕ, Bool, true, false, if◌then◌else◌, Option, None, Some, MatchOption, IsSomeAnd, List, [], ◌∷◌, ◌++◌, length, slice_get, inl, inr, refl, ap, sym}
use Rattle.std.specs.List.{AllZip, flat_map}
use Rattle.std.specs.Option.{option_map_or}
use Rattle.std.proofs.lemmas.Bool.{true≢false}
use Rattle.std.proofs.lemmas.Slice.Zip.{AllZip-long, AllZip-right}
use Rattle.blz_value.specs.Groups.{with_key}
use Rattle.blz_value.specs.Members.{Has}
use Rattle.blz_value.specs.Operators.{Pairs}
use Rattle.blz_value.specs.Record.{Row}
use Rattle.blz_value.proofs.Membership.{Has-append_left, Has-append_right}
use Rattle.blz_set.specs.Pairs.{lefts_of, rights_of}
use Rattle.bloom_forms.specs.declared.module.Collection.{Collection}
use Rattle.bloom_forms.specs.declared.numbered.NumberedExpr.{NumberedExpr, Base, Select', Project', Join', NotIn', Group', AtLeast'}
use Rattle.bloom_forms.specs.declared.numbered.NumberedRule.{NumberedRule}
use Rattle.bloom_forms.specs.declared.program.Program.TheVariants.{Module}
use Rattle.bloom_forms.specs.Checks.{IsChecked}
use Rattle.bloom_forms.specs.Form.{RuleForm, Accepted}
use Rattle.bloom_forms.specs.Heads.{names_of}
use Rattle.bloom_forms.specs.Numbered.{IsNumbered, AreNumbered}
use Rattle.bloom_forms.specs.Query.{Query}
use Rattle.bloom_forms.specs.Query.Query.{base, select, project, join, notin, group, at_least}
use Rattle.bloom_forms.specs.Step.{Sets}
use Rattle.bloom_eval.specs.NumberedRows.{numbered_rows}
use Rattle.bloom_eval.proofs.ByNumbers.{same_rows}
use Rattle.bloom_growth.specs.declared.side.Side.{Side}
use Rattle.bloom_index.specs.Growing.{is_growing}
use Rattle.bloom_index.specs.Sides.{SidePart, side_if, pairs_by_number, sides_in, module_sides, rows_over, part_side, side_rows}
use Rattle.bloom_index.specs.Code.Growth.{grows, AreGrowing}
use Rattle.bloom_index.specs.Code.Kept.{held_over}
use Rattle.bloom_growth.specs.Sides.{rows_at}
use Rattle.bloom_index.specs.Code.SideParts.{NumberedSide, grown_side, numbered_sides, rules_sides, HasRowsOf, IsSideAt}
use Rattle.bloom_index.proofs.GrowsLemmas.{AreKnown, expr_is, rule_known}

-- two lists after two lists
zip_append : {X Y : Type 0} (R : X → Y → Type 0) (xs more : List X) (ys others : List Y) → AllZip R xs ys → AllZip R more others → AllZip R (xs ++ more) (ys ++ others)
zip_append R [] more [] others first second = second
zip_append R [] more (y ∷ ys) others first second = absurd first
zip_append R (x ∷ xs) more [] others first second = absurd first
zip_append R (x ∷ xs) more (y ∷ ys) others first second = (first.0, zip_append R xs more ys others first.1 second)

-- a side by numbers
pub record IsNumberedSide (cs : List Collection) (side : SidePart) (numbered : NumberedSide) : Type 0 where
  pub part : IsNumbered cs side.part numbered.part
  pub columns : numbered.columns ≡ side.columns

module _ (a : Accepted) (checked : IsChecked a.form a.heads) (growing : List Bool) (are : AreGrowing a growing) where
  abbrev cs : List Collection
  cs = a.form.collections

  abbrev all_rules : List RuleForm
  all_rules = a.form.rules

  abbrev Zip : List SidePart → List NumberedSide → Type 0
  Zip sides numbered = AllZip (IsNumberedSide cs) sides numbered

  one_side : (q : Query) (e : NumberedExpr) (columns numbers : List ℕ) → AreKnown a checked growing q → IsNumbered cs q e → numbers ≡ columns → Zip (side_if cs all_rules q columns) (grown_side growing e numbers)
  one_side q e columns numbers known is same = go (is_growing cs all_rules q) (grows growing e) (expr_is a checked growing q e known is)
    where
      go : (b c : Bool) → c ≡ b → Zip (if b then record { part = q; columns = columns } ∷ [] else []) (if c then record { part = e; columns = numbers } ∷ [] else [])
      go true true agree = (record { part = is; columns = same }, tt)
      go true false agree = absurd (true≢false (sym agree))
      go false true agree = absurd (true≢false agree)
      go false false agree = tt

  -- the sides within a left part, a right part and those within it
  within_parts : (left right : Query) (l r : NumberedExpr) (rights : List ℕ) (numbers : Pairs) → AreKnown a checked growing right → IsNumbered cs right r → rights_of numbers ≡ rights
      → Zip (sides_in cs all_rules left) (numbered_sides growing l) → Zip (sides_in cs all_rules right) (numbered_sides growing r)
      → Zip (sides_in cs all_rules left ++ (side_if cs all_rules right rights ++ sides_in cs all_rules right)) (numbered_sides growing l ++ (grown_side growing r (rights_of numbers) ++ numbered_sides growing r))
  within_parts left right l r rights numbers known is same first second =
      zip_append (IsNumberedSide cs) (sides_in cs all_rules left) (side_if cs all_rules right rights ++ sides_in cs all_rules right) (numbered_sides growing l) (grown_side growing r (rights_of numbers) ++ numbered_sides growing r) first
      (zip_append (IsNumberedSide cs) (side_if cs all_rules right rights) (sides_in cs all_rules right) (grown_side growing r (rights_of numbers)) (numbered_sides growing r) (one_side right r rights (rights_of numbers) known is same) second)

  expr_sides : (q : Query) (e : NumberedExpr) → AreKnown a checked growing q → IsNumbered cs q e → Zip (sides_in cs all_rules q) (numbered_sides growing e)
  expr_sides (base name) (Base number) known is = tt
  expr_sides (select q f) (Select' p e test) known is = expr_sides q e known is.0
  expr_sides (project q items) (Project' p e columns) known is = expr_sides q e known is.0
  expr_sides (join left right pairs) (Join' p l s r numbers) known is =
      let first : AreKnown a checked growing left = λ n h. known n (Has-append_left n (names_of left) (names_of right) h) in
      let second : AreKnown a checked growing right = λ n h. known n (Has-append_right n (names_of left) (names_of right) h) in
      let lefts = lefts_of (pairs_by_number cs left right pairs) in
      let rights = rights_of (pairs_by_number cs left right pairs) in
      zip_append (IsNumberedSide cs) (side_if cs all_rules left lefts) (sides_in cs all_rules left ++ (side_if cs all_rules right rights ++ sides_in cs all_rules right))
      (grown_side growing l (lefts_of numbers)) (numbered_sides growing l ++ (grown_side growing r (rights_of numbers) ++ numbered_sides growing r))
      (one_side left l lefts (lefts_of numbers) first is.0 (ap lefts_of is.2))
      (within_parts left right l r rights numbers second is.1 (ap rights_of is.2) (expr_sides left l first is.0) (expr_sides right r second is.1))
  expr_sides (notin left right pairs) (NotIn' p l s r numbers) known is =
      let first : AreKnown a checked growing left = λ n h. known n (Has-append_left n (names_of left) (names_of right) h) in
      let second : AreKnown a checked growing right = λ n h. known n (Has-append_right n (names_of left) (names_of right) h) in
      let rights = rights_of (pairs_by_number cs left right pairs) in
      within_parts left right l r rights numbers second is.1 (ap rights_of is.2) (expr_sides left l first is.0) (expr_sides right r second is.1)
  expr_sides (group q keys agg name) (Group' p e numbers by) known is = expr_sides q e known is.0
  expr_sides (at_least q keys bound) (AtLeast' p e numbers count) known is = expr_sides q e known is.0
  expr_sides q e known is = absurd is

  all_sides : (forms : List RuleForm) (rules : List NumberedRule) → ((r : RuleForm) → Has r forms → Has r all_rules) → AreNumbered cs forms rules
      → Zip (flat_map (λ (rule : RuleForm). sides_in cs all_rules rule.1) forms) (rules_sides growing rules)
  all_sides [] [] inside all = tt
  all_sides [] (r ∷ rules) inside all = absurd all
  all_sides (f ∷ forms) [] inside all = absurd all
  all_sides (f ∷ forms) (r ∷ rules) inside all =
      zip_append (IsNumberedSide cs) (sides_in cs all_rules f.1) (flat_map (λ (rule : RuleForm). sides_in cs all_rules rule.1) forms) (numbered_sides growing r.body) (rules_sides growing rules) (expr_sides f.1 r.body (rule_known a checked growing are f (inside f (inl refl))) all.0.body)
      (all_sides forms rules (λ x h. inside x (inr h)) all.1)

  module _ (rules : List NumberedRule) (all : AreNumbered cs all_rules rules) where
    same_sides : Zip (module_sides a.form) (rules_sides growing rules)
    same_sides = all_sides all_rules rules (λ r h. h) all

    -- there are as many sides by numbers
    pub sides_counted : length (rules_sides growing rules) ≡ length (module_sides a.form)
    sides_counted = AllZip-long (IsNumberedSide cs) (module_sides a.form) (rules_sides growing rules) same_sides

    -- the side with a number has the rows of that side
    pub side_found : (kept : Sets) (number : ℕ) (side : Side) → IsSideAt (held_over a kept) (rules_sides growing rules) number side → (key : Row) → rows_at side key ≡ side_rows (Some (Module a)) kept number key
    side_found kept number side at key = go (slice_get (module_sides a.form) number) (slice_get (rules_sides growing rules) number) (AllZip-right (IsNumberedSide cs) (module_sides a.form) (rules_sides growing rules) same_sides number) at
      where
        go : (o : Option SidePart) (u : Option NumberedSide) → MatchOption u (Unit {0}) (λ (s : NumberedSide). IsSomeAnd o (λ (p : SidePart). IsNumberedSide cs p s))
            → IsSomeAnd u (HasRowsOf (held_over a kept) side)
            → rows_at side key ≡ option_map_or (λ (p : SidePart). part_side a kept p key) o []
        go o None zip found = absurd found
        go None (Some s) zip found = absurd zip
        go (Some p) (Some s) zip found =
            let rows : numbered_rows (held_over a kept) s.part ≡ rows_over a kept p.part = same_rows cs (held_over a kept) p.part s.part zip.part in
            let columns = zip.columns in
            found key ∙ (λ i. with_key (columns i) key (rows i))
