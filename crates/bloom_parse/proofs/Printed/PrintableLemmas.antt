-- A checked module is printable, and so what is printed of it is its text.
use Rattle.std.proofs.Common.{◌≡◌, ◌≢◌, ◌≤◌, ℕ, false, nat_lt, List, [], ◌∷◌, ◌++◌, map, drop, refl, sym, subst, inl, inr}
use Rattle.std.proofs.lemmas.List.Elements.{All-nil, All-cons}
use Rattle.std.specs.List.{All, AllByRecursion, flat_map, list_any}
use Rattle.blz_value.specs.Members.{Has}
use Rattle.blz_value.proofs.Booleans.{neither}
use Rattle.bloom_forms.specs.declared.module.Collection.{Collection}
use Rattle.bloom_forms.specs.Bounds.{query_levels, is_long, formulas_of}
use Rattle.bloom_forms.specs.Checks.{IsCollection, IsRule, IsChecked}
use Rattle.bloom_forms.specs.Form.{RuleForm, Form}
use Rattle.bloom_forms.specs.Lookup.{declared}
use Rattle.bloom_forms.specs.Query.{Name}
use Rattle.bloom_forms.specs.Reserved.{query_names}
use Rattle.bloom_parse.specs.declared.lexing.terminal.Terminal.TheVariants as terminals
use Rattle.bloom_parse.specs.declared.lexing.terminal.Mark.TheVariants as marks
use Rattle.bloom_parse.specs.Layout.{tree_of, first_name, collection_tree, rule_tree, module_tree, printed}
use Rattle.bloom_parse.specs.Parsing.{IsTextOf}
use Rattle.bloom_parse.specs.Printable.{HasItems, IsPrintable}
use Rattle.bloom_parse.specs.Trees.{more_names_text, expr_text, ExprFits, collection_text, rule_text, module_text}
use Rattle.bloom_parse.proofs.Printed.BoundsLemmas.{low, tree_fits, has_bounds, has_items, some_columns}
use Rattle.bloom_parse.proofs.Texts.TerminalLemmas.{Own, Are, are_both, own_first, own_parts, more_names_are, expr_are}
use Rattle.bloom_parse.proofs.Printed.PrintLaw.{printed_again, printed_text}

-- ---- collections

abbrev collection_names : Collection → List Name
collection_names c = c.name ∷ c.columns

columns_are : (columns : List Name) → columns ≢ [] → Own columns → Are (terminals.Name (first_name columns) ∷ (more_names_text (drop 1 columns) ++ terminals.Mark marks.Close ∷ terminals.Mark marks.Semicolon ∷ []))
columns_are [] some own = absurd (some refl)
columns_are (c ∷ columns) some own =
    let parts = own_first c columns own in
    (parts.0, are_both (more_names_text columns) (terminals.Mark marks.Close ∷ terminals.Mark marks.Semicolon ∷ []) (more_names_are columns parts.1) (tt, (tt, tt)))

collection_is : (c : Collection) → IsCollection c → Own (collection_names c) → Are (collection_text (collection_tree c))
collection_is c h own = let parts = own_first c.name c.columns own in (tt, (parts.0, (tt, columns_are c.columns (some_columns c.columns h.width) parts.1)))

collections_are : (cs : List Collection) → ((c : Collection) → Has c cs → IsCollection c) → Own (flat_map collection_names cs) → Are (flat_map collection_text (map collection_tree cs))
collections_are [] h own = tt
collections_are (c ∷ cs) h own =
    let parts = own_parts (collection_names c) (flat_map collection_names cs) own in
    are_both (collection_text (collection_tree c)) (flat_map collection_text (map collection_tree cs)) (collection_is c (h c (inl refl)) parts.0) (collections_are cs (λ d n. h d (inr n)) parts.1)

have_columns : (cs : List Collection) → ((c : Collection) → Has c cs → IsCollection c) → AllByRecursion (λ c. c.columns ≢ []) cs
have_columns [] h = tt
have_columns (c ∷ cs) h = (some_columns c.columns (h c (inl refl)).width, have_columns cs (λ d n. h d (inr n)))

-- ---- rules

abbrev rule_names : RuleForm → List Name
rule_names r = r.0 ∷ query_names r.1

module _ (all : List Collection) (every : List RuleForm) where
  abbrev Rules : List RuleForm → Type 0
  Rules rules = (r : RuleForm) → Has r rules → IsRule all every r

  -- few levels, and no long predicate
  within : (r : RuleForm) → IsRule all every r → (query_levels r.1 ≤ 32) × (list_any is_long (formulas_of r.1) ≡ false)
  within r h = let parts = neither (nat_lt 32 (query_levels r.1)) (list_any is_long (formulas_of r.1)) h.bounded in (low (query_levels r.1) parts.0, parts.1)

  rule_is : (r : RuleForm) → IsRule all every r → Own (rule_names r) → Are (rule_text (rule_tree r))
  rule_is r h own =
      let parts = own_first r.0 (query_names r.1) own in
      let are = expr_are r.1 (has_items (declared all) r.1 h.fits) parts.1 h.literals (within r h).1 in
      (parts.0, (tt, are_both (expr_text (tree_of r.1)) (terminals.Mark marks.Semicolon ∷ []) are (tt, tt)))

  rules_are : (rules : List RuleForm) → Rules rules → Own (flat_map rule_names rules) → Are (flat_map rule_text (map rule_tree rules))
  rules_are [] h own = tt
  rules_are (r ∷ rules) h own =
      let parts = own_parts (rule_names r) (flat_map rule_names rules) own in
      are_both (rule_text (rule_tree r)) (flat_map rule_text (map rule_tree rules)) (rule_is r (h r (inl refl)) parts.0) (rules_are rules (λ s n. h s (inr n)) parts.1)

  rules_fit : (rules : List RuleForm) → Rules rules → All (λ r. ExprFits 32 r.body) (map rule_tree rules)
  rules_fit [] h = All-nil (λ r. ExprFits 32 r.body)
  rules_fit (r ∷ rules) h =
      let few = within r (h r (inl refl)) in
      All-cons (λ t. ExprFits 32 t.body) (rule_tree r) (map rule_tree rules) (tree_fits r.1 32 few.0 few.1 (has_bounds (declared all) r.1 (h r (inl refl)).fits)) (rules_fit rules (λ s n. h s (inr n)))

  rules_have : (rules : List RuleForm) → Rules rules → AllByRecursion (λ rule. HasItems rule.1) rules
  rules_have [] h = tt
  rules_have (r ∷ rules) h = (has_items (declared all) r.1 (h r (inl refl)).fits, rules_have rules (λ s n. h s (inr n)))

-- ---- modules

pub printable : (m : Form) (heads : List ℕ) → IsChecked m heads → IsPrintable m
printable m heads h =
    let name = own_first m.name (flat_map collection_names m.collections ++ flat_map rule_names m.rules) h.names in
    let names = own_parts (flat_map collection_names m.collections) (flat_map rule_names m.rules) name.1 in
    record {
      terminals = (tt, (name.0, (tt, are_both (flat_map collection_text (map collection_tree m.collections)) (flat_map rule_text (map rule_tree m.rules)) (collections_are m.collections h.collections names.0) (rules_are m.collections m.rules m.rules h.rules names.1))));
      fits = rules_fit m.collections m.rules m.rules h.rules;
      columns = have_columns m.collections h.collections;
      items = rules_have m.collections m.rules m.rules h.rules;
    }

-- what is printed of a checked module is a text of it
pub checked_text : (m : Form) (heads text : List ℕ) → IsChecked m heads → text ≡ printed m → IsTextOf text m
checked_text m heads text h e = let fine = printable m heads h in subst (λ (t : List ℕ). IsTextOf t m) (sym e) (module_text (module_tree m) ++ terminals.End ∷ [], printed_again m fine, printed_text m fine)
