-- Formulas and queries as lists of signs, in which each operator stands behind its parts. The list gives the tree back.
use Rattle.std.specs.Prelude.{ℕ, ℤ, ◌≡◌, List, [], ◌∷◌, ◌++◌, refl}
use Rattle.std.proofs.Common.{ap, ◌∙◌}
use Rattle.std.specs.Coded.{Coded, code_by, coded×, coded_list, coded_ℕ}
use Rattle.blz_value.specs.declared.test.Op.{Op}
use Rattle.bloom_forms.specs.declared.expr.Term.{Term}
use Rattle.bloom_forms.specs.declared.expr.NamedAgg.{NamedAgg}
use Rattle.bloom_forms.specs.declared.module.Collection.{Collection}
use Rattle.bloom_forms.specs.Query.{Name, Formula, Query}
use Rattle.bloom_forms.specs.Form.{RuleForm, Form, Accepted}
use Rattle.bloom_forms.specs.Query.Formula.{compare, both, either, not_so}
use Rattle.bloom_forms.specs.Query.Query.{base, select, project, join, notin, group, at_least}

-- ---- formulas, written behind their parts

pub data FormulaSign : Type 0 where
  comparing : Term → Op → Term → FormulaSign
  anding : FormulaSign
  oring : FormulaSign
  notting : FormulaSign

abbrev pub signs : Formula → List FormulaSign
signs (compare l o r) = comparing l o r ∷ []
signs (both a b) = signs a ++ (signs b ++ anding ∷ [])
signs (either a b) = signs a ++ (signs b ++ oring ∷ [])
signs (not_so a) = signs a ++ notting ∷ []

-- reads signs onto a stack
abbrev pub read_sign : FormulaSign → List Formula → List Formula
read_sign (comparing l o r) stack = compare l o r ∷ stack
read_sign anding [] = []
read_sign anding (b ∷ []) = []
read_sign anding (b ∷ a ∷ stack) = both a b ∷ stack
read_sign oring [] = []
read_sign oring (b ∷ []) = []
read_sign oring (b ∷ a ∷ stack) = either a b ∷ stack
read_sign notting [] = []
read_sign notting (a ∷ stack) = not_so a ∷ stack

abbrev pub read_signs : List FormulaSign → List Formula → List Formula
read_signs [] stack = stack
read_signs (s ∷ more) stack = read_signs more (read_sign s stack)

read_signs-append : (xs ys : List FormulaSign) (stack : List Formula) → read_signs (xs ++ ys) stack ≡ read_signs ys (read_signs xs stack)
read_signs-append [] ys stack = refl
read_signs-append (x ∷ xs) ys stack = read_signs-append xs ys (read_sign x stack)

signs_read : (f : Formula) (stack : List Formula) → read_signs (signs f) stack ≡ f ∷ stack
signs_read (compare l o r) stack = refl
signs_read (both a b) stack = read_signs-append (signs a) _ stack ∙ ap (read_signs (signs b ++ anding ∷ [])) (signs_read a stack) ∙ read_signs-append (signs b) _ (a ∷ stack) ∙ ap (read_signs (anding ∷ [])) (signs_read b (a ∷ stack))
signs_read (either a b) stack = read_signs-append (signs a) _ stack ∙ ap (read_signs (signs b ++ oring ∷ [])) (signs_read a stack) ∙ read_signs-append (signs b) _ (a ∷ stack) ∙ ap (read_signs (oring ∷ [])) (signs_read b (a ∷ stack))
signs_read (not_so a) stack = read_signs-append (signs a) _ stack ∙ ap (read_signs (notting ∷ [])) (signs_read a stack)

-- ---- queries

pub data QuerySign : Type 0 where
  basing : Name → QuerySign
  selecting : List FormulaSign → QuerySign
  projecting : List (Name × Name) → QuerySign
  joining : List (Name × Name) → QuerySign
  denying : List (Name × Name) → QuerySign
  grouping : List Name → NamedAgg → Name → QuerySign
  bounding : List Name → ℤ → QuerySign

abbrev pub query_signs : Query → List QuerySign
query_signs (base n) = basing n ∷ []
query_signs (select q f) = query_signs q ++ selecting (signs f) ∷ []
query_signs (project q items) = query_signs q ++ projecting items ∷ []
query_signs (join a b pairs) = query_signs a ++ (query_signs b ++ joining pairs ∷ [])
query_signs (notin a b pairs) = query_signs a ++ (query_signs b ++ denying pairs ∷ [])
query_signs (group q keys agg name) = query_signs q ++ grouping keys agg name ∷ []
query_signs (at_least q keys bound) = query_signs q ++ bounding keys bound ∷ []

abbrev pub with_formula : Query → List Formula → List Query → List Query
with_formula q [] stack = []
with_formula q (f ∷ fs) stack = select q f ∷ stack

abbrev pub read_query_sign : QuerySign → List Query → List Query
read_query_sign (basing n) stack = base n ∷ stack
read_query_sign (selecting s) [] = []
read_query_sign (selecting s) (q ∷ stack) = with_formula q (read_signs s []) stack
read_query_sign (projecting items) [] = []
read_query_sign (projecting items) (q ∷ stack) = project q items ∷ stack
read_query_sign (joining pairs) [] = []
read_query_sign (joining pairs) (b ∷ []) = []
read_query_sign (joining pairs) (b ∷ a ∷ stack) = join a b pairs ∷ stack
read_query_sign (denying pairs) [] = []
read_query_sign (denying pairs) (b ∷ []) = []
read_query_sign (denying pairs) (b ∷ a ∷ stack) = notin a b pairs ∷ stack
read_query_sign (grouping keys agg name) [] = []
read_query_sign (grouping keys agg name) (q ∷ stack) = group q keys agg name ∷ stack
read_query_sign (bounding keys bound) [] = []
read_query_sign (bounding keys bound) (q ∷ stack) = at_least q keys bound ∷ stack

abbrev pub read_query_signs : List QuerySign → List Query → List Query
read_query_signs [] stack = stack
read_query_signs (t ∷ more) stack = read_query_signs more (read_query_sign t stack)

read_query_signs-append : (xs ys : List QuerySign) (stack : List Query) → read_query_signs (xs ++ ys) stack ≡ read_query_signs ys (read_query_signs xs stack)
read_query_signs-append [] ys stack = refl
read_query_signs-append (x ∷ xs) ys stack = read_query_signs-append xs ys (read_query_sign x stack)

query_signs_read : (q : Query) (stack : List Query) → read_query_signs (query_signs q) stack ≡ q ∷ stack
query_signs_read (base n) stack = refl
query_signs_read (select q f) stack = read_query_signs-append (query_signs q) _ stack ∙ ap (read_query_signs (selecting (signs f) ∷ [])) (query_signs_read q stack) ∙ ap (λ fs. with_formula q fs stack) (signs_read f [])
query_signs_read (project q items) stack = read_query_signs-append (query_signs q) _ stack ∙ ap (read_query_signs (projecting items ∷ [])) (query_signs_read q stack)
query_signs_read (join a b pairs) stack = read_query_signs-append (query_signs a) _ stack ∙ ap (read_query_signs (query_signs b ++ joining pairs ∷ [])) (query_signs_read a stack) ∙ read_query_signs-append (query_signs b) _ (a ∷ stack) ∙ ap (read_query_signs (joining pairs ∷ [])) (query_signs_read b (a ∷ stack))
query_signs_read (notin a b pairs) stack = read_query_signs-append (query_signs a) _ stack ∙ ap (read_query_signs (query_signs b ++ denying pairs ∷ [])) (query_signs_read a stack) ∙ read_query_signs-append (query_signs b) _ (a ∷ stack) ∙ ap (read_query_signs (denying pairs ∷ [])) (query_signs_read b (a ∷ stack))
query_signs_read (group q keys agg name) stack = read_query_signs-append (query_signs q) _ stack ∙ ap (read_query_signs (grouping keys agg name ∷ [])) (query_signs_read q stack)
query_signs_read (at_least q keys bound) stack = read_query_signs-append (query_signs q) _ stack ∙ ap (read_query_signs (bounding keys bound ∷ [])) (query_signs_read q stack)

abbrev pub first_query : List Query → Query
first_query [] = base []
first_query (q ∷ stack) = q

pub query_back : (q : Query) → first_query (read_query_signs (query_signs q) []) ≡ q
query_back q = ap first_query (query_signs_read q [])

-- the code of a query, from that of its signs
abbrev pub query_code : Coded QuerySign → Coded Query
query_code code = code_by (List QuerySign) (coded_list code) query_signs (λ signs. first_query (read_query_signs signs [])) query_back

-- the code of rules
abbrev pub rules_code : Coded QuerySign → Coded (List RuleForm)
rules_code code = coded_list (coded× (coded_list coded_ℕ) (query_code code))

-- a module as a name and two lists
abbrev pub form_from : Name → List Collection × List RuleForm → Form
form_from name lists = record { name = name; collections = lists.0; rules = lists.1 }

-- the code of a module
abbrev pub form_code : Coded QuerySign → Coded Collection → Coded Form
form_code sign collection =
    code_by (Name × (List Collection × List RuleForm))
    (coded× (coded_list coded_ℕ) (coded× (coded_list collection) (rules_code sign)))
    (λ form. (form.name, (form.collections, form.rules)))
    (λ parts. form_from parts.0 parts.1)
    (λ form. refl)

-- the code of a module that was checked
abbrev pub accepted_code : Coded QuerySign → Coded Collection → Coded Accepted
accepted_code sign collection =
    code_by (Form × List ℕ)
    (coded× (form_code sign collection) (coded_list coded_ℕ))
    (λ a. (a.form, a.heads))
    (λ parts. record { form = parts.0; heads = parts.1 })
    (λ a. refl)
