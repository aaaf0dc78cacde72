-- In no text of the grammar does a token go on with the next.
use Rattle.std.proofs.Common.{ℕ, List, [], ◌∷◌, ◌++◌, refl, sym, subst, append_assoc}
use Rattle.std.specs.List.{flat_map}
use Rattle.blz_value.specs.declared.value.Value.TheVariants.{Int, Text}
use Rattle.blz_value.specs.Name.{is_name_byte}
use Rattle.bloom_forms.specs.declared.expr.Term.{Term}
use Rattle.bloom_forms.specs.declared.expr.Term.TheVariants.{Column, Literal}
use Rattle.bloom_forms.specs.declared.expr.NamedAgg.{NamedAgg}
use Rattle.bloom_forms.specs.declared.expr.NamedAgg.TheVariants.{Count, Sum, Min, Max}
use Rattle.bloom_forms.specs.declared.module.Kind.{Kind}
use Rattle.bloom_forms.specs.declared.module.Kind.TheVariants.{Input, Output, Table, Scratch}
use Rattle.bloom_forms.specs.Query.{Name}
use Rattle.bloom_parse.specs.declared.lexing.terminal.Terminal.{Terminal}
use Rattle.bloom_parse.specs.declared.lexing.terminal.Terminal.TheVariants as terminals
use Rattle.bloom_parse.specs.declared.lexing.terminal.Word.TheVariants as words
use Rattle.bloom_parse.specs.declared.lexing.terminal.Mark.TheVariants as marks
use Rattle.bloom_parse.specs.Trees.{word, mark, term_token, UnitTree, AndsTree, OrsTree, unit_text, ands_text, ors_text, Item, ExprTree, item_text, more_items_text, more_pairs_text, more_names_text, keys_text, agg_text, expr_text, kind_word, CollectionTree, collection_text, RuleTree, rule_text, ModuleTree, module_text}
use Rattle.bloom_parse.specs.Layout.{behind, text_of}
use Rattle.bloom_parse.proofs.Texts.SpelledLemmas.{Stops}
use Rattle.bloom_parse.proofs.Texts.LaidLemmas.{IsFree, AreApart}

-- the terminals begin with no name byte
abbrev Starts : List Terminal → Type 0
Starts rest = Stops is_name_byte (text_of rest)

regroup : (xs ys zs : List Terminal) → AreApart (xs ++ (ys ++ zs)) → AreApart ((xs ++ ys) ++ zs)
regroup xs ys zs h = subst AreApart (sym (append_assoc xs ys zs)) h

-- ---- predicates

term_free : (t : Term) (text : List ℕ) → Stops is_name_byte text → IsFree (term_token t) text
term_free (Column n) text s = s
term_free (Literal (Int i)) text s = s
term_free (Literal (Text t)) text s = tt

mutual
  unit_apart : (u : UnitTree) (rest : List Terminal) → AreApart rest → Starts rest → AreApart (unit_text u ++ rest)
  unit_apart (UnitTree.not_tree u) rest a s = (refl, unit_apart u rest a s)
  unit_apart (UnitTree.in_parens p) rest a s = (tt, regroup (ors_text p) (mark marks.Close ∷ []) rest (ors_apart p (mark marks.Close ∷ rest) (tt, a) refl))
  unit_apart (UnitTree.comparison l o r) rest a s = (term_free l _ refl, (tt, (term_free r (text_of rest) s, a)))

  ands_apart : (x : AndsTree) (rest : List Terminal) → AreApart rest → Starts rest → AreApart (ands_text x ++ rest)
  ands_apart (AndsTree.one_unit u) rest a s = unit_apart u rest a s
  ands_apart (AndsTree.and_then x u) rest a s = regroup (ands_text x) (word words.And ∷ unit_text u) rest (ands_apart x (word words.And ∷ (unit_text u ++ rest)) (refl, unit_apart u rest a s) refl)

  ors_apart : (x : OrsTree) (rest : List Terminal) → AreApart rest → Starts rest → AreApart (ors_text x ++ rest)
  ors_apart (OrsTree.one_ands x) rest a s = ands_apart x rest a s
  ors_apart (OrsTree.or_then o x) rest a s = regroup (ors_text o) (word words.Or ∷ ands_text x) rest (ors_apart o (word words.Or ∷ (ands_text x ++ rest)) (refl, ands_apart x rest a s) refl)

-- ---- lists

names_apart : (names : List Name) (rest : List Terminal) → AreApart rest → Starts rest → AreApart (more_names_text names ++ rest) × Starts (more_names_text names ++ rest)
names_apart [] rest a s = (a, s)
names_apart (n ∷ names) rest a s = let more = names_apart names rest a s in ((tt, (more.1, more.0)), refl)

pairs_apart : (pairs : List (Name × Name)) (rest : List Terminal) → AreApart rest → Starts rest → AreApart (more_pairs_text pairs ++ rest) × Starts (more_pairs_text pairs ++ rest)
pairs_apart [] rest a s = (a, s)
pairs_apart (p ∷ pairs) rest a s = let more = pairs_apart pairs rest a s in ((tt, (refl, (tt, (more.1, more.0)))), refl)

item_apart : (i : Item) (rest : List Terminal) → AreApart rest → Starts rest → AreApart (item_text i ++ rest)
item_apart (Item.plain n) rest a s = (s, a)
item_apart (Item.renamed n m) rest a s = (refl, (refl, (s, a)))

items_apart : (items : List Item) (rest : List Terminal) → AreApart rest → Starts rest → AreApart (more_items_text items ++ rest) × Starts (more_items_text items ++ rest)
items_apart [] rest a s = (a, s)
items_apart (i ∷ items) rest a s =
    let more = items_apart items rest a s in
    ((tt, regroup (item_text i) (more_items_text items) rest (item_apart i (more_items_text items ++ rest) more.0 more.1)), refl)

keys_apart : (keys : List Name) (rest : List Terminal) → AreApart rest → AreApart (keys_text keys ++ rest)
keys_apart [] rest a = (tt, (tt, a))
keys_apart (n ∷ names) rest a =
    let more = names_apart names (mark marks.CloseKeys ∷ rest) (tt, a) refl in (
      tt,
      (
        subst (λ (ts : List Terminal). Starts ts) (sym (append_assoc (more_names_text names) (mark marks.CloseKeys ∷ []) rest)) more.1,
        regroup (more_names_text names) (mark marks.CloseKeys ∷ []) rest more.0,
      ),
    )

agg_apart : (agg : NamedAgg) (rest : List Terminal) → AreApart rest → Starts rest → AreApart (agg_text agg ++ rest)
agg_apart Count rest a s = (s, a)
agg_apart (Sum n) rest a s = (refl, (tt, (refl, (tt, a))))
agg_apart (Min n) rest a s = (refl, (tt, (refl, (tt, a))))
agg_apart (Max n) rest a s = (refl, (tt, (refl, (tt, a))))

-- ---- expressions

expr_apart : (e : ExprTree) (rest : List Terminal) → AreApart rest → Starts rest → AreApart (expr_text e ++ rest)
expr_apart (ExprTree.of_base n) rest a s = (s, a)
expr_apart (ExprTree.of_select e p) rest a s = (
  refl,
  (
    tt,
    regroup (expr_text e) (mark marks.Comma ∷ (ors_text p ++ mark marks.Close ∷ [])) rest (expr_apart e _
        (tt, regroup (ors_text p) (mark marks.Close ∷ []) rest (ors_apart p (mark marks.Close ∷ rest) (tt, a) refl)) refl),
  ),
)
expr_apart (ExprTree.of_project e i items) rest a s =
    let more = items_apart items (mark marks.Close ∷ rest) (tt, a) refl in
    let regrouped = append_assoc (more_items_text items) (mark marks.Close ∷ []) rest in (
      refl,
      (
        tt,
        regroup (expr_text e) (mark marks.Comma ∷ (item_text i ++ (more_items_text items ++ mark marks.Close ∷ []))) rest (expr_apart e _
            (tt, regroup (item_text i) (more_items_text items ++ mark marks.Close ∷ []) rest (item_apart i _ (subst AreApart (sym regrouped) more.0) (subst (λ (ts : List Terminal). Starts ts) (sym regrouped) more.1))) refl),
      ),
    )
expr_apart (ExprTree.of_join x y pairs) rest a s =
    let more = pairs_apart pairs (mark marks.Close ∷ rest) (tt, a) refl in
    let regrouped = append_assoc (more_pairs_text pairs) (mark marks.Close ∷ []) rest in (
      refl,
      (
        tt,
        regroup (expr_text x) (mark marks.Comma ∷ (expr_text y ++ (more_pairs_text pairs ++ mark marks.Close ∷ []))) rest (expr_apart x _
            (tt, regroup (expr_text y) (more_pairs_text pairs ++ mark marks.Close ∷ []) rest (expr_apart y _ (subst AreApart (sym regrouped) more.0) (subst (λ (ts : List Terminal). Starts ts) (sym regrouped) more.1))) refl),
      ),
    )
expr_apart (ExprTree.of_notin x y pairs) rest a s =
    let more = pairs_apart pairs (mark marks.Close ∷ rest) (tt, a) refl in
    let regrouped = append_assoc (more_pairs_text pairs) (mark marks.Close ∷ []) rest in (
      refl,
      (
        tt,
        regroup (expr_text x) (mark marks.Comma ∷ (expr_text y ++ (more_pairs_text pairs ++ mark marks.Close ∷ []))) rest (expr_apart x _
            (tt, regroup (expr_text y) (more_pairs_text pairs ++ mark marks.Close ∷ []) rest (expr_apart y _ (subst AreApart (sym regrouped) more.0) (subst (λ (ts : List Terminal). Starts ts) (sym regrouped) more.1))) refl),
      ),
    )
expr_apart (ExprTree.of_group e keys agg n) rest a s =
    let ending = word words.As ∷ terminals.Name n ∷ mark marks.Close ∷ [] in (
      refl,
      (
        tt,
        regroup (expr_text e) (mark marks.Comma ∷ (keys_text keys ++ mark marks.Comma ∷ (agg_text agg ++ ending))) rest (expr_apart e _ (
          tt,
          regroup (keys_text keys) (mark marks.Comma ∷ (agg_text agg ++ ending)) rest (keys_apart keys _
              (tt, regroup (agg_text agg) ending rest (agg_apart agg (ending ++ rest) (refl, (refl, (tt, a))) refl))),
        ) refl),
      ),
    )
expr_apart (ExprTree.of_at_least e keys bound) rest a s =
    let ending = mark marks.Comma ∷ terminals.Integer bound ∷ mark marks.Close ∷ [] in (
      refl,
      (
        tt,
        regroup (expr_text e) (mark marks.Comma ∷ (keys_text keys ++ ending)) rest (expr_apart e _
            (tt, regroup (keys_text keys) ending rest (keys_apart keys (ending ++ rest) (tt, (refl, (tt, a))))) refl),
      ),
    )

-- ---- modules

kind_free : (k : Kind) (text : List ℕ) → Stops is_name_byte (behind (word (kind_word k)) ++ text)
kind_free Input text = refl
kind_free Output text = refl
kind_free Table text = refl
kind_free Scratch text = refl

collection_apart : (c : CollectionTree) (rest : List Terminal) → AreApart rest → AreApart (collection_text c ++ rest)
collection_apart c rest a =
    let ending = mark marks.Close ∷ mark marks.Semicolon ∷ [] in
    let more = names_apart c.more (ending ++ rest) (tt, (tt, a)) refl in
    let regrouped = append_assoc (more_names_text c.more) ending rest in
    (kind_free c.kind _, (refl, (tt, (subst (λ (ts : List Terminal). Starts ts) (sym regrouped) more.1, subst AreApart (sym regrouped) more.0))))

collections_apart : (cs : List CollectionTree) (rest : List Terminal) → AreApart rest → AreApart (flat_map collection_text cs ++ rest)
collections_apart [] rest a = a
collections_apart (c ∷ cs) rest a = regroup (collection_text c) (flat_map collection_text cs) rest (collection_apart c (flat_map collection_text cs ++ rest) (collections_apart cs rest a))

rules_apart : (rules : List RuleTree) → AreApart (flat_map rule_text rules)
rules_apart [] = tt
rules_apart (r ∷ rules) =
    let rest = flat_map rule_text rules in
    (refl, (tt, regroup (expr_text r.body) (mark marks.Semicolon ∷ []) rest (expr_apart r.body (mark marks.Semicolon ∷ rest) (tt, rules_apart rules) refl)))

pub module_apart : (m : ModuleTree) → AreApart (module_text m)
module_apart m = (refl, (refl, (tt, collections_apart m.collections (flat_map rule_text m.rules) (rules_apart m.rules))))
