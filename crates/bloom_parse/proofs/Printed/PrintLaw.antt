-- The tree of a module means the module.
use Rattle.std.proofs.Common.{◌≡◌, ◌≢◌, Bool, true, false, cond, List, [], ◌∷◌, ◌++◌, map, drop, refl, ap, ◌∙◌, length}
use Rattle.std.specs.List.{AllByRecursion}
use Rattle.std.specs.Str.{bytes_eq}
use Rattle.std.proofs.lemmas.Slice.Eq.{bytes_eq-Decides}
use Rattle.bloom_forms.specs.declared.module.Collection.{Collection}
use Rattle.bloom_forms.specs.Form.{RuleForm, Form}
use Rattle.bloom_forms.specs.Query.{Name, Formula, Query}
use Rattle.bloom_forms.specs.Query.Formula.{compare, both, either, not_so}
use Rattle.bloom_forms.specs.Query.Query.{base, select, project, join, notin, group, at_least}
use Rattle.bloom_parse.specs.declared.lexing.terminal.Terminal.TheVariants as terminals
use Rattle.bloom_parse.specs.Trees.{ors_formula, ands_formula, unit_formula, Item, item_pair, expr_query, collection_form, tree_rule, module_text, module_form}
use Rattle.bloom_parse.specs.Layout.{Levels, levels, item_of, tree_of, first_name, collection_tree, rule_tree, module_tree, printed}
use Rattle.bloom_parse.specs.Places.{IsModuleText}
use Rattle.bloom_parse.specs.Printable.{HasItems, IsPrintable}
use Rattle.bloom_parse.specs.Tokens.{AreTerminals}
use Rattle.bloom_parse.proofs.Texts.LaidLemmas.{lexes_laid}
use Rattle.bloom_parse.proofs.Texts.ApartLemmas.{module_apart}

-- each of the three trees of a predicate means it
abbrev AreOf : Formula → Levels → Type 0
AreOf f l = (ors_formula l.ors ≡ f) × (ands_formula l.ands ≡ f) × (unit_formula l.unit ≡ f)

levels_mean : (f : Formula) → AreOf f (levels f)
levels_mean (compare l o r) = (refl, refl, refl)
levels_mean (not_so f) = let e = ap not_so (levels_mean f).2 in (e, e, e)
levels_mean (both f g) = let e = ap (λ x. both x (unit_formula (levels g).unit)) (levels_mean f).1 ∙ ap (both f) (levels_mean g).2 in (e, e, e)
levels_mean (either f g) = let e = ap (λ x. either x (ands_formula (levels g).ands)) (levels_mean f).0 ∙ ap (either f) (levels_mean g).1 in (e, e, e)

item_by_test : (a b : Name) (same : Bool) → bytes_eq a b ≡ same → item_pair (cond same (Item.plain a) (Item.renamed a b)) ≡ (a, b)
item_by_test a b true e = let same : a ≡ b = (bytes_eq-Decides a b).0 e in ap (λ (n : Name). (a, n)) same
item_by_test a b false e = refl

item_means : (pair : Name × Name) → item_pair (item_of pair) ≡ pair
item_means pair = item_by_test pair.0 pair.1 (bytes_eq pair.0 pair.1) refl

items_mean : (pairs : List (Name × Name)) → map item_pair (map item_of pairs) ≡ pairs
items_mean [] = refl
items_mean (p ∷ pairs) = ap (λ (x : Name × Name). x ∷ map item_pair (map item_of pairs)) (item_means p) ∙ ap (λ (ps : List (Name × Name)). p ∷ ps) (items_mean pairs)

tree_means : (q : Query) → HasItems q → expr_query (tree_of q) ≡ q
tree_means (base name) h = refl
tree_means (select q f) h = ap (λ x. select x (ors_formula (levels f).ors)) (tree_means q h) ∙ ap (select q) (levels_mean f).0
tree_means (project q []) h = absurd (h.1 refl)
tree_means (project q (p ∷ pairs)) h = ap (λ x. project x (map item_pair (map item_of (p ∷ pairs)))) (tree_means q h.0) ∙ ap (project q) (items_mean (p ∷ pairs))
tree_means (join a b pairs) h = ap (λ x. join x (expr_query (tree_of b)) pairs) (tree_means a h.0) ∙ ap (λ x. join a x pairs) (tree_means b h.1)
tree_means (notin a b pairs) h = ap (λ x. notin x (expr_query (tree_of b)) pairs) (tree_means a h.0) ∙ ap (λ x. notin a x pairs) (tree_means b h.1)
tree_means (group q keys agg name) h = ap (λ x. group x keys agg name) (tree_means q h)
tree_means (at_least q keys bound) h = ap (λ x. at_least x keys bound) (tree_means q h)

columns_mean : (columns : List Name) → columns ≢ [] → first_name columns ∷ drop 1 columns ≡ columns
columns_mean [] h = absurd (h refl)
columns_mean (c ∷ columns) h = refl

collections_mean : (cs : List Collection) → AllByRecursion (λ c. c.columns ≢ []) cs → map collection_form (map collection_tree cs) ≡ cs
collections_mean [] h = refl
collections_mean (c ∷ cs) h =
    ap (λ (columns : List Name). record { kind = c.kind; name = c.name; columns = columns } ∷ map collection_form (map collection_tree cs)) (columns_mean c.columns h.0)
    ∙ ap (λ (xs : List Collection). c ∷ xs) (collections_mean cs h.1)

rules_mean : (rules : List RuleForm) → AllByRecursion (λ rule. HasItems rule.1) rules → map tree_rule (map rule_tree rules) ≡ rules
rules_mean [] h = refl
rules_mean (r ∷ rules) h =
    ap (λ (q : Query). (r.0, q) ∷ map tree_rule (map rule_tree rules)) (tree_means r.1 h.0)
    ∙ ap (λ (xs : List RuleForm). r ∷ xs) (rules_mean rules h.1)

abbrev form_from : Name → List Collection → List RuleForm → Form
form_from name collections rules = record { name = name; collections = collections; rules = rules }

module_means : (m : Form) → IsPrintable m → module_form (module_tree m) ≡ m
module_means m h =
    ap (λ cs. form_from m.name cs (map tree_rule (map rule_tree m.rules))) (collections_mean m.collections h.columns)
    ∙ ap (form_from m.name m.collections) (rules_mean m.rules h.items)

-- what is printed is read as these terminals, which are a text of the module
pub printed_again : (m : Form) → IsPrintable m → AreTerminals (printed m) (module_text (module_tree m) ++ terminals.End ∷ [])
printed_again m h =
    let lexed = lexes_laid (length (printed m)) (module_text (module_tree m)) h.terminals (module_apart (module_tree m)) in
    (lexed.0, [], lexed.1)

pub printed_text : (m : Form) → IsPrintable m → IsModuleText (module_text (module_tree m) ++ terminals.End ∷ []) m
printed_text m h = record { tree = module_tree m; fits = h.fits; text = refl; means = module_means m h }
