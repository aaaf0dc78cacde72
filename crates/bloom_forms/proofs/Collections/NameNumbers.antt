-- Names and their numbers.
use Rattle.std.proofs.Common.{◌≡◌, ◌≤◌, ◌<◌, ◌&&◌, ℕ, true, Option, None, Some, List, [], ◌∷◌, ◌++◌, length, slice_get, refl, sym, subst}
use Rattle.std.specs.Prelude.{unwrap_or, IfSome}
use Rattle.std.specs.Cmp.Lexicographic.{same_text}
use Rattle.std.specs.Str.{bytes_eq}
use Rattle.std.proofs.lemmas.List.{length-map}
use Rattle.blz_value.specs.Members.{Has}
use Rattle.blz_value.proofs.Membership.{Has-from_any}
use Rattle.blz_value.specs.Names.{place_of}
use Rattle.blz_value.proofs.Places.{place_of-get, place_of-none}
use Rattle.blz_value.proofs.Booleans.{both_true}
use Rattle.bloom_forms.specs.declared.expr.Term.{Term}
use Rattle.bloom_forms.specs.declared.expr.Term.TheVariants.{Column, Literal}
use Rattle.bloom_forms.specs.declared.module.Collection.{Collection}
use Rattle.bloom_forms.specs.declared.numbered.NumberedRule.{NumberedRule}
use Rattle.bloom_forms.specs.Checks.{IsChecked}
use Rattle.bloom_forms.specs.Columns.{column_number, columns_of}
use Rattle.bloom_forms.specs.Fits.{has_name, is_width, are_columns, term_fits, formula_fits, operator_fits, part_fits, query_fits}
use Rattle.bloom_forms.specs.Form.{RuleForm, Form}
use Rattle.bloom_forms.specs.Lookup.{declared}
use Rattle.bloom_forms.specs.Numbered.{IsNumberedRule, AreNumbered, IsNumberable}
use Rattle.bloom_forms.specs.Query.{Name, Formula, Query}
use Rattle.bloom_forms.specs.Query.Formula.{compare, both, either, not_so}
use Rattle.bloom_forms.specs.Query.Query.{base, select, project, join, notin, group, at_least}
use Rattle.bloom_forms.specs.Tests.{TermFits, FormulaFits}
use Rattle.bloom_forms.proofs.Collections.Numbers.{get-within}
use Rattle.bloom_forms.proofs.Collections.Small.{at_most_eight}

-- the number of a column that is there
pub number_below : (columns : List Name) (name : Name) → Has name columns → column_number columns name < length columns
number_below columns name stands = go (place_of columns name) refl
  where
    go : (o : Option ℕ) → place_of columns name ≡ o → unwrap_or (place_of columns name) (length columns) < length columns
    go None e = absurd (place_of-none columns name (rw e refl) stands)
    go (Some place) e = rw e (get-within columns place name (subst (λ o. IfSome o (λ at. slice_get columns at ≡ Some name)) e (place_of-get columns name)))

-- ---- names can be made numbers where the operators fit

-- a name that is found is one of the list
found : (columns : List Name) (name : Name) → has_name columns name ≡ true → Has name columns
found columns name e = let at = Has-from_any (λ held. bytes_eq held name) columns e in subst (λ n. Has n columns) (same_text at.0 name (sym at.2)) at.1

term_found : (columns : List Name) (term : Term) → term_fits columns term ≡ true → TermFits columns term
term_found columns (Column name) e = found columns name e
term_found columns (Literal value) e = tt

formula_found : (columns : List Name) (f : Formula) → formula_fits columns f ≡ true → FormulaFits columns f
formula_found columns (compare l o r) e = let p = both_true (term_fits columns l) (term_fits columns r) e in (term_found columns l p.0, term_found columns r p.1)
formula_found columns (both a b) e = let p = both_true (formula_fits columns a) (formula_fits columns b) e in (formula_found columns a p.0, formula_found columns b p.1)
formula_found columns (either a b) e = let p = both_true (formula_fits columns a) (formula_fits columns b) e in (formula_found columns a p.0, formula_found columns b p.1)
formula_found columns (not_so a) e = formula_found columns a e

-- a part that fits has at most eight columns
few : (columns : Name → List Name) (q : Query) → part_fits columns q ≡ true → length (columns_of columns q) ≤ 8
few columns q e = at_most_eight (length (columns_of columns q)) (both_true (is_width (length (columns_of columns q))) _ (both_true (operator_fits columns q) (are_columns (columns_of columns q)) e).1).0

-- the names of an expression that fits can be made numbers
numberable : (columns : Name → List Name) (q : Query) → query_fits columns q ≡ true → IsNumberable columns q
numberable columns (base name) e = few columns (base name) e
numberable columns (select q f) e =
    let p = both_true (query_fits columns q) (part_fits columns (select q f)) e in
    (numberable columns q p.0, formula_found (columns_of columns q) f (both_true (operator_fits columns (select q f)) (are_columns (columns_of columns (select q f))) p.1).0)
numberable columns (project q items) e =
    let p = both_true (query_fits columns q) (part_fits columns (project q items)) e in
    (numberable columns q p.0, subst (λ n. n ≤ 8) (length-map items (λ (item : Name × Name). item.1)) (few columns (project q items) p.1))
numberable columns (join a b pairs) e =
    let p = both_true (query_fits columns a) (query_fits columns b && part_fits columns (join a b pairs)) e in
    let q = both_true (query_fits columns b) (part_fits columns (join a b pairs)) p.1 in
    (numberable columns a p.0, numberable columns b q.0, few columns (join a b pairs) q.1)
numberable columns (notin a b pairs) e =
    let p = both_true (query_fits columns a) (query_fits columns b && part_fits columns (notin a b pairs)) e in
    let q = both_true (query_fits columns b) (part_fits columns (notin a b pairs)) p.1 in
    (numberable columns a p.0, numberable columns b q.0)
numberable columns (group q keys agg name) e =
    let p = both_true (query_fits columns q) (part_fits columns (group q keys agg name)) e in
    (numberable columns q p.0, few columns (group q keys agg name) p.1)
numberable columns (at_least q keys bound) e =
    let p = both_true (query_fits columns q) (part_fits columns (at_least q keys bound)) e in
    (numberable columns q p.0, few columns (at_least q keys bound) p.1)

-- the names in the rules of a checked module can be made numbers
pub rules_numberable : (m : Form) (heads : List ℕ) → IsChecked m heads → (rule : RuleForm) → Has rule m.rules → IsNumberable (declared m.collections) rule.1
rules_numberable m heads checked rule stands = numberable (declared m.collections) rule.1 (checked.rules rule stands).fits

-- ---- rules one by one

-- one rule more
pub numbered_more : (cs : List Collection) (forms : List RuleForm) (rules : List NumberedRule) (form : RuleForm) (rule : NumberedRule) → AreNumbered cs forms rules → IsNumberedRule cs form rule → AreNumbered cs (forms ++ form ∷ []) (rules ++ rule ∷ [])
numbered_more cs [] [] form rule all one = (one, tt)
numbered_more cs [] (r ∷ rules) form rule all one = absurd all
numbered_more cs (f ∷ forms) [] form rule all one = absurd all
numbered_more cs (f ∷ forms) (r ∷ rules) form rule all one = (all.0, numbered_more cs forms rules form rule all.1 one)
