-- The text of each tree with what comes behind it, without nested parentheses.
use Rattle.std.proofs.Common.{◌≡◌, List, [], ◌∷◌, ◌++◌, flat_map, ap, ◌∙◌, append_assoc}
use Rattle.std.specs.Prelude.{ℤ}
use Rattle.blz_value.specs.declared.test.Op.TheVariants.{Le}
use Rattle.bloom_forms.specs.Query.{Name}
use Rattle.bloom_parse.specs.declared.lexing.terminal.Terminal.{Terminal}
use Rattle.bloom_parse.specs.declared.lexing.terminal.Terminal.TheVariants as terminals
use Rattle.bloom_parse.specs.declared.lexing.terminal.Word.TheVariants as words
use Rattle.bloom_parse.specs.declared.lexing.terminal.Mark.TheVariants as marks
use Rattle.bloom_forms.specs.declared.expr.NamedAgg.{NamedAgg}
use Rattle.bloom_parse.specs.Trees.{OrsTree, word, mark, ors_text, Item, ExprTree, item_text, more_items_text, more_pairs_text, more_names_text, keys_text, agg_text, expr_text, kind_word, CollectionTree, collection_text, RuleTree, rule_text, ModuleTree, module_text}

pub flat_select : (e : ExprTree) (p : OrsTree) (rest : List Terminal) → expr_text (ExprTree.of_select e p) ++ rest ≡ word words.Select ∷ mark marks.Open ∷ (expr_text e ++ mark marks.Comma ∷ (ors_text p ++ mark marks.Close ∷ rest))
flat_select e p rest = ap (λ (t : List Terminal). word words.Select ∷ mark marks.Open ∷ t) (append_assoc (expr_text e) (mark marks.Comma ∷ (ors_text p ++ mark marks.Close ∷ [])) rest ∙ ap (λ (t : List Terminal). expr_text e ++ mark marks.Comma ∷ t) (append_assoc (ors_text p) (mark marks.Close ∷ []) rest))

pub flat_project : (e : ExprTree) (i : Item) (items : List Item) (rest : List Terminal) → expr_text (ExprTree.of_project e i items) ++ rest ≡ word words.Project ∷ mark marks.Open ∷ (expr_text e ++ mark marks.Comma ∷ (item_text i ++ (more_items_text items ++ mark marks.Close ∷ rest)))
flat_project e i items rest = ap (λ (t : List Terminal). word words.Project ∷ mark marks.Open ∷ t) (append_assoc (expr_text e) (mark marks.Comma ∷ (item_text i ++ (more_items_text items ++ mark marks.Close ∷ []))) rest ∙ ap (λ (t : List Terminal). expr_text e ++ mark marks.Comma ∷ t) (append_assoc (item_text i) (more_items_text items ++ mark marks.Close ∷ []) rest ∙ ap (λ (t : List Terminal). item_text i ++ t) (append_assoc (more_items_text items) (mark marks.Close ∷ []) rest)))

flat_parts : (a b : ExprTree) (pairs : List (Name × Name)) (rest : List Terminal) → (expr_text a ++ mark marks.Comma ∷ (expr_text b ++ (more_pairs_text pairs ++ mark marks.Close ∷ []))) ++ rest ≡ expr_text a ++ mark marks.Comma ∷ (expr_text b ++ (more_pairs_text pairs ++ mark marks.Close ∷ rest))
flat_parts a b pairs rest = append_assoc (expr_text a) (mark marks.Comma ∷ (expr_text b ++ (more_pairs_text pairs ++ mark marks.Close ∷ []))) rest ∙ ap (λ (t : List Terminal). expr_text a ++ mark marks.Comma ∷ t) (append_assoc (expr_text b) (more_pairs_text pairs ++ mark marks.Close ∷ []) rest ∙ ap (λ (t : List Terminal). expr_text b ++ t) (append_assoc (more_pairs_text pairs) (mark marks.Close ∷ []) rest))

pub flat_join : (a b : ExprTree) (pairs : List (Name × Name)) (rest : List Terminal) → expr_text (ExprTree.of_join a b pairs) ++ rest ≡ word words.Join ∷ mark marks.Open ∷ (expr_text a ++ mark marks.Comma ∷ (expr_text b ++ (more_pairs_text pairs ++ mark marks.Close ∷ rest)))
flat_join a b pairs rest = ap (λ (t : List Terminal). word words.Join ∷ mark marks.Open ∷ t) (flat_parts a b pairs rest)

pub flat_notin : (a b : ExprTree) (pairs : List (Name × Name)) (rest : List Terminal) → expr_text (ExprTree.of_notin a b pairs) ++ rest ≡ word words.NotIn ∷ mark marks.Open ∷ (expr_text a ++ mark marks.Comma ∷ (expr_text b ++ (more_pairs_text pairs ++ mark marks.Close ∷ rest)))
flat_notin a b pairs rest = ap (λ (t : List Terminal). word words.NotIn ∷ mark marks.Open ∷ t) (flat_parts a b pairs rest)

pub flat_group : (e : ExprTree) (keys : List Name) (agg : NamedAgg) (n : Name) (rest : List Terminal) → expr_text (ExprTree.of_group e keys agg n) ++ rest ≡ word words.Group ∷ mark marks.Open ∷ (expr_text e ++ mark marks.Comma ∷ (keys_text keys ++ mark marks.Comma ∷ (agg_text agg ++ word words.As ∷ terminals.Name n ∷ mark marks.Close ∷ rest)))
flat_group e keys agg n rest =
    let named = word words.As ∷ terminals.Name n ∷ mark marks.Close ∷ [] in
    ap (λ (t : List Terminal). word words.Group ∷ mark marks.Open ∷ t) (append_assoc (expr_text e) (mark marks.Comma ∷ (keys_text keys ++ mark marks.Comma ∷ (agg_text agg ++ named))) rest ∙ ap (λ (t : List Terminal). expr_text e ++ mark marks.Comma ∷ t) (append_assoc (keys_text keys) (mark marks.Comma ∷ (agg_text agg ++ named)) rest ∙ ap (λ (t : List Terminal). keys_text keys ++ mark marks.Comma ∷ t) (append_assoc (agg_text agg) named rest)))

pub flat_at_least : (e : ExprTree) (keys : List Name) (bound : ℤ) (rest : List Terminal) → expr_text (ExprTree.of_at_least e keys bound) ++ rest ≡ word words.AtLeast ∷ mark marks.Open ∷ (expr_text e ++ mark marks.Comma ∷ (keys_text keys ++ mark marks.Comma ∷ terminals.Integer bound ∷ mark marks.Close ∷ rest))
flat_at_least e keys bound rest =
    let bounded = mark marks.Comma ∷ terminals.Integer bound ∷ mark marks.Close ∷ [] in
    ap (λ (t : List Terminal). word words.AtLeast ∷ mark marks.Open ∷ t) (append_assoc (expr_text e) (mark marks.Comma ∷ (keys_text keys ++ bounded)) rest ∙ ap (λ (t : List Terminal). expr_text e ++ mark marks.Comma ∷ t) (append_assoc (keys_text keys) bounded rest))

pub flat_keys : (n : Name) (names : List Name) (rest : List Terminal) → keys_text (n ∷ names) ++ rest ≡ mark marks.OpenKeys ∷ terminals.Name n ∷ (more_names_text names ++ mark marks.CloseKeys ∷ rest)
flat_keys n names rest = ap (λ (t : List Terminal). mark marks.OpenKeys ∷ terminals.Name n ∷ t) (append_assoc (more_names_text names) (mark marks.CloseKeys ∷ []) rest)

pub flat_collection : (c : CollectionTree) (rest : List Terminal) → collection_text c ++ rest ≡ word (kind_word c.kind) ∷ terminals.Name c.name ∷ mark marks.Open ∷ terminals.Name c.first ∷ (more_names_text c.more ++ mark marks.Close ∷ mark marks.Semicolon ∷ rest)
flat_collection c rest = ap (λ (t : List Terminal). word (kind_word c.kind) ∷ terminals.Name c.name ∷ mark marks.Open ∷ terminals.Name c.first ∷ t) (append_assoc (more_names_text c.more) (mark marks.Close ∷ mark marks.Semicolon ∷ []) rest)

pub flat_rule : (r : RuleTree) (rest : List Terminal) → rule_text r ++ rest ≡ terminals.Name r.head ∷ terminals.Sign Le ∷ (expr_text r.body ++ mark marks.Semicolon ∷ rest)
flat_rule r rest = ap (λ (t : List Terminal). terminals.Name r.head ∷ terminals.Sign Le ∷ t) (append_assoc (expr_text r.body) (mark marks.Semicolon ∷ []) rest)

pub flat_module : (m : ModuleTree) → module_text m ++ terminals.End ∷ [] ≡ word words.Module ∷ terminals.Name m.name ∷ mark marks.Semicolon ∷ (flat_map collection_text m.collections ++ (flat_map rule_text m.rules ++ terminals.End ∷ []))
flat_module m = ap (λ (t : List Terminal). word words.Module ∷ terminals.Name m.name ∷ mark marks.Semicolon ∷ t) (append_assoc (flat_map collection_text m.collections) (flat_map rule_text m.rules) (terminals.End ∷ []))
