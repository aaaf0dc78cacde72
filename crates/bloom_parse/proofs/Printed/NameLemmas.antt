-- The names of a module that has a text are own names.
use Rattle.std.proofs.Common.{ℕ, List, [], ◌∷◌, ◌++◌, map, refl, subst, sym}
use Rattle.std.specs.List.{flat_map}
use Rattle.blz_value.specs.declared.test.Op.TheVariants.{Le}
use Rattle.blz_value.specs.declared.value.Value.TheVariants.{Int, Text}
use Rattle.bloom_forms.specs.declared.expr.NamedAgg.{NamedAgg}
use Rattle.bloom_forms.specs.declared.expr.NamedAgg.TheVariants.{Count, Sum, Min, Max}
use Rattle.bloom_forms.specs.declared.expr.Term.{Term}
use Rattle.bloom_forms.specs.declared.expr.Term.TheVariants.{Column, Literal}
use Rattle.bloom_forms.specs.Form.{RuleForm, Form}
use Rattle.bloom_forms.specs.Query.{Name}
use Rattle.bloom_forms.specs.Reserved.{term_names, formula_names, pair_names, aggregate_names, query_names, HasOwnNames}
use Rattle.bloom_parse.specs.declared.lexing.terminal.Terminal.{Terminal}
use Rattle.bloom_parse.specs.declared.lexing.terminal.Terminal.TheVariants as terminals
use Rattle.bloom_parse.specs.declared.lexing.terminal.Mark.TheVariants as marks
use Rattle.bloom_parse.specs.declared.lexing.terminal.Word.TheVariants as words
use Rattle.bloom_parse.specs.Parsing.{IsTextOf}
use Rattle.bloom_parse.specs.Trees.{word, mark, UnitTree, AndsTree, OrsTree, term_token, unit_text, ands_text, ors_text, unit_formula, ands_formula, ors_formula, Item, ExprTree, item_text, item_pair, more_items_text, more_pairs_text, more_names_text, keys_text, agg_text, expr_text, expr_query, CollectionTree, collection_text, collection_form, RuleTree, rule_text, tree_rule, ModuleTree, module_text, module_form}
use Rattle.bloom_parse.proofs.Texts.NameTokens.{token_names, Named, named_parts, lexes_named}
use Rattle.bloom_parse.proofs.Texts.TerminalLemmas.{Own, own_parts, own_both}

-- what stands before other terminals
before_end : (ts us : List Terminal) → Named (ts ++ us) → Named ts
before_end ts us h = (named_parts ts us h).0

-- ---- predicates

term_own : (t : Term) → Named (term_token t ∷ []) → Own (term_names t)
term_own (Column name) h = h
term_own (Literal (Int n)) h = refl
term_own (Literal (Text bytes)) h = refl

mutual
  unit_own : (u : UnitTree) → Named (unit_text u) → Own (formula_names (unit_formula u))
  unit_own (UnitTree.not_tree u) h = unit_own u h
  unit_own (UnitTree.in_parens p) h = ors_own p (before_end (ors_text p) (mark marks.Close ∷ []) h)
  unit_own (UnitTree.comparison l o r) h =
      let parts = named_parts (term_token l ∷ []) (terminals.Sign o ∷ term_token r ∷ []) h in
      own_both (term_names l) (term_names r) (term_own l parts.0) (term_own r parts.1)

  ands_own : (a : AndsTree) → Named (ands_text a) → Own (formula_names (ands_formula a))
  ands_own (AndsTree.one_unit u) h = unit_own u h
  ands_own (AndsTree.and_then a u) h =
      let parts = named_parts (ands_text a) (word words.And ∷ unit_text u) h in
      own_both (formula_names (ands_formula a)) (formula_names (unit_formula u)) (ands_own a parts.0) (unit_own u parts.1)

  ors_own : (o : OrsTree) → Named (ors_text o) → Own (formula_names (ors_formula o))
  ors_own (OrsTree.one_ands a) h = ands_own a h
  ors_own (OrsTree.or_then o a) h =
      let parts = named_parts (ors_text o) (word words.Or ∷ ands_text a) h in
      own_both (formula_names (ors_formula o)) (formula_names (ands_formula a)) (ors_own o parts.0) (ands_own a parts.1)

-- ---- lists

item_own : (i : Item) → Named (item_text i) → Own (pair_names (item_pair i ∷ []))
item_own (Item.plain n) h = own_both (n ∷ []) (n ∷ []) h h
item_own (Item.renamed n m) h = h

items_own : (items : List Item) → Named (more_items_text items) → Own (pair_names (map item_pair items))
items_own [] h = refl
items_own (i ∷ items) h =
    let parts = named_parts (item_text i) (more_items_text items) h in
    own_both (pair_names (item_pair i ∷ [])) (pair_names (map item_pair items)) (item_own i parts.0) (items_own items parts.1)

pairs_own : (pairs : List (Name × Name)) → Named (more_pairs_text pairs) → Own (pair_names pairs)
pairs_own [] h = refl
pairs_own (p ∷ pairs) h =
    let parts = own_parts (p.0 ∷ p.1 ∷ []) (flat_map token_names (more_pairs_text pairs)) h in
    own_both (p.0 ∷ p.1 ∷ []) (pair_names pairs) parts.0 (pairs_own pairs parts.1)

names_own : (names : List Name) → Named (more_names_text names) → Own names
names_own [] h = refl
names_own (n ∷ names) h =
    let parts = own_parts (n ∷ []) (flat_map token_names (more_names_text names)) h in
    own_both (n ∷ []) names parts.0 (names_own names parts.1)

-- a name and more, with marks behind
some_names_own : (n : Name) (names : List Name) (us : List Terminal) → Named (terminals.Name n ∷ (more_names_text names ++ us)) → Own (n ∷ names)
some_names_own n names us h = names_own (n ∷ names) (before_end (more_names_text (n ∷ names)) us h)

keys_own : (keys : List Name) → Named (keys_text keys) → Own keys
keys_own [] h = refl
keys_own (n ∷ names) h = some_names_own n names (mark marks.CloseKeys ∷ []) h

agg_own : (agg : NamedAgg) → Named (agg_text agg) → Own (aggregate_names agg)
agg_own Count h = refl
agg_own (Sum n) h = h
agg_own (Min n) h = h
agg_own (Max n) h = h

-- ---- expressions

abbrev IsOwn : ExprTree → Type 0
IsOwn e = Named (expr_text e) → Own (query_names (expr_query e))

-- two expressions and pairs, as join and notin have them
parts_own : (a b : ExprTree) (pairs : List (Name × Name)) → IsOwn a → IsOwn b → Named (expr_text a ++ mark marks.Comma ∷ (expr_text b ++ (more_pairs_text pairs ++ mark marks.Close ∷ [])))
    → Own (query_names (expr_query a) ++ (query_names (expr_query b) ++ pair_names pairs))
parts_own a b pairs own_a own_b h =
    let parts = named_parts (expr_text a) (mark marks.Comma ∷ (expr_text b ++ (more_pairs_text pairs ++ mark marks.Close ∷ []))) h in
    let second = named_parts (expr_text b) (more_pairs_text pairs ++ mark marks.Close ∷ []) parts.1 in
    let more = pairs_own pairs (before_end (more_pairs_text pairs) (mark marks.Close ∷ []) second.1) in
    own_both (query_names (expr_query a)) (query_names (expr_query b) ++ pair_names pairs) (own_a parts.0) (own_both (query_names (expr_query b)) (pair_names pairs) (own_b second.0) more)

expr_own : (e : ExprTree) → IsOwn e
expr_own (ExprTree.of_base n) h = h
expr_own (ExprTree.of_select e p) h =
    let parts = named_parts (expr_text e) (mark marks.Comma ∷ (ors_text p ++ mark marks.Close ∷ [])) h in
    own_both (query_names (expr_query e)) (formula_names (ors_formula p)) (expr_own e parts.0) (ors_own p (before_end (ors_text p) (mark marks.Close ∷ []) parts.1))
expr_own (ExprTree.of_project e i items) h =
    let parts = named_parts (expr_text e) (mark marks.Comma ∷ (item_text i ++ (more_items_text items ++ mark marks.Close ∷ []))) h in
    let first = named_parts (item_text i) (more_items_text items ++ mark marks.Close ∷ []) parts.1 in
    let more = items_own items (before_end (more_items_text items) (mark marks.Close ∷ []) first.1) in
    own_both (query_names (expr_query e)) (pair_names (map item_pair (i ∷ items))) (expr_own e parts.0) (own_both (pair_names (item_pair i ∷ [])) (pair_names (map item_pair items)) (item_own i first.0) more)
expr_own (ExprTree.of_join a b pairs) h = parts_own a b pairs (expr_own a) (expr_own b) h
expr_own (ExprTree.of_notin a b pairs) h = parts_own a b pairs (expr_own a) (expr_own b) h
expr_own (ExprTree.of_group e keys agg n) h =
    let parts = named_parts (expr_text e) (mark marks.Comma ∷ (keys_text keys ++ mark marks.Comma ∷ (agg_text agg ++ word words.As ∷ terminals.Name n ∷ mark marks.Close ∷ []))) h in
    let second = named_parts (keys_text keys) (mark marks.Comma ∷ (agg_text agg ++ word words.As ∷ terminals.Name n ∷ mark marks.Close ∷ [])) parts.1 in
    let third = named_parts (agg_text agg) (word words.As ∷ terminals.Name n ∷ mark marks.Close ∷ []) second.1 in
    let more = own_both (aggregate_names agg) (n ∷ []) (agg_own agg third.0) third.1 in
    own_both (query_names (expr_query e)) (keys ++ (aggregate_names agg ++ n ∷ [])) (expr_own e parts.0) (own_both keys (aggregate_names agg ++ n ∷ []) (keys_own keys second.0) more)
expr_own (ExprTree.of_at_least e keys bound) h =
    let parts = named_parts (expr_text e) (mark marks.Comma ∷ (keys_text keys ++ mark marks.Comma ∷ terminals.Integer bound ∷ mark marks.Close ∷ [])) h in
    own_both (query_names (expr_query e)) keys (expr_own e parts.0) (keys_own keys (before_end (keys_text keys) (mark marks.Comma ∷ terminals.Integer bound ∷ mark marks.Close ∷ []) parts.1))

-- ---- modules

collection_own : (c : CollectionTree) → Named (collection_text c) → Own (c.name ∷ c.first ∷ c.more)
collection_own c h =
    let behind : List Terminal = mark marks.Close ∷ mark marks.Semicolon ∷ [] in
    let parts = own_parts (c.name ∷ []) (flat_map token_names (terminals.Name c.first ∷ (more_names_text c.more ++ behind))) h in
    own_both (c.name ∷ []) (c.first ∷ c.more) parts.0 (some_names_own c.first c.more behind parts.1)

collections_own : (cs : List CollectionTree) → Named (flat_map collection_text cs) → Own (flat_map (λ c. c.name ∷ c.columns) (map collection_form cs))
collections_own [] h = refl
collections_own (c ∷ cs) h =
    let parts = named_parts (collection_text c) (flat_map collection_text cs) h in
    own_both (c.name ∷ c.first ∷ c.more) (flat_map (λ c. c.name ∷ c.columns) (map collection_form cs)) (collection_own c parts.0) (collections_own cs parts.1)

abbrev rule_names : RuleForm → List Name
rule_names r = r.0 ∷ query_names r.1

rule_own : (r : RuleTree) → Named (rule_text r) → Own (rule_names (tree_rule r))
rule_own r h =
    let parts = named_parts (terminals.Name r.head ∷ terminals.Sign Le ∷ []) (expr_text r.body ++ mark marks.Semicolon ∷ []) h in
    own_both (r.head ∷ []) (query_names (expr_query r.body)) parts.0 (expr_own r.body (before_end (expr_text r.body) (mark marks.Semicolon ∷ []) parts.1))

rules_own : (rules : List RuleTree) → Named (flat_map rule_text rules) → Own (flat_map rule_names (map tree_rule rules))
rules_own [] h = refl
rules_own (r ∷ rules) h =
    let parts = named_parts (rule_text r) (flat_map rule_text rules) h in
    own_both (rule_names (tree_rule r)) (flat_map rule_names (map tree_rule rules)) (rule_own r parts.0) (rules_own rules parts.1)

module_own : (m : ModuleTree) → Named (module_text m) → HasOwnNames (module_form m)
module_own m h =
    let body : List Terminal = flat_map collection_text m.collections ++ flat_map rule_text m.rules in
    let first = own_parts (m.name ∷ []) (flat_map token_names body) h in
    let parts = named_parts (flat_map collection_text m.collections) (flat_map rule_text m.rules) first.1 in
    let declared : List Name = flat_map (λ c. c.name ∷ c.columns) (map collection_form m.collections) in
    let written : List Name = flat_map rule_names (map tree_rule m.rules) in
    own_both (m.name ∷ []) (declared ++ written) first.0 (own_both declared written (collections_own m.collections parts.0) (rules_own m.rules parts.1))

-- a module that a text is of has own names
pub text_has_own_names : (text : List ℕ) (m : Form) → IsTextOf text m → HasOwnNames m
text_has_own_names text m h =
    let is = h.2 in
    let named = subst Named (sym is.text) (lexes_named _ _ h.1.0 h.0 h.1.1 h.1.2) in
    subst HasOwnNames is.means (module_own is.tree (before_end (module_text is.tree) (terminals.End ∷ []) named))
