-- The terminals of a module whose names are its own and whose literals can be held.
use Rattle.std.proofs.Common.{◌≡◌, ◌≤◌, not, ℕ, Bool, true, false, cond, nat_lt, Some, None, List, [], ◌∷◌, ◌++◌, map, length, refl, sym, ap, ◌∙◌, arith}
use Rattle.std.proofs.lemmas.Bool.{and_from}
use Rattle.std.proofs.lemmas.Grind.{common_steps}
use Rattle.std.proofs.lemmas.List.Folds.{list_all-append}
use Rattle.std.proofs.lemmas.Slice.Eq.{bytes_eq-Decides}
use Rattle.std.specs.List.{AllByRecursion, find, list_any, list_all}
use Rattle.std.specs.Str.{bytes_eq}
use Rattle.blz_value.specs.declared.value.Value.TheVariants.{Int, Text}
use Rattle.blz_value.specs.Name.{is_name}
use Rattle.blz_value.proofs.Booleans.{not_true, both_true, neither}
use Rattle.bloom_forms.specs.declared.expr.NamedAgg.{NamedAgg}
use Rattle.bloom_forms.specs.declared.expr.NamedAgg.TheVariants.{Count, Sum, Min, Max}
use Rattle.bloom_forms.specs.declared.expr.Term.{Term}
use Rattle.bloom_forms.specs.declared.expr.Term.TheVariants.{Column, Literal}
use Rattle.bloom_forms.specs.Bounds.{is_long, is_long_term, has_long_literal, comparisons, formulas_of}
use Rattle.bloom_forms.specs.Literals.{TermLiterals, FormulaLiterals, HasLiterals}
use Rattle.bloom_forms.specs.Query.{Name, Formula, Query}
use Rattle.bloom_forms.specs.Query.Formula.{compare, both, either, not_so}
use Rattle.bloom_forms.specs.Query.Query.{base, select, project, join, notin, group, at_least}
use Rattle.bloom_forms.specs.Reserved.{is_own_name, is_reserved, term_names, formula_names, pair_names, aggregate_names, query_names}
use Rattle.bloom_parse.specs.declared.lexing.terminal.Terminal.{Terminal}
use Rattle.bloom_parse.specs.declared.lexing.terminal.Terminal.TheVariants as terminals
use Rattle.bloom_parse.specs.declared.lexing.terminal.Mark.TheVariants as marks
use Rattle.bloom_parse.specs.declared.lexing.terminal.Word.{Word}
use Rattle.bloom_parse.specs.declared.lexing.terminal.Word.TheVariants as words
use Rattle.bloom_parse.specs.Layout.{Levels, levels, item_of, tree_of}
use Rattle.bloom_parse.specs.Printable.{HasItems}
use Rattle.bloom_parse.specs.Spelling.{IsTerminal, all_words, word_bytes}
use Rattle.bloom_parse.specs.Trees.{term_token, unit_text, ands_text, ors_text, Item, item_text, more_items_text, more_pairs_text, more_names_text, keys_text, agg_text, expr_text}
use Rattle.bloom_parse.proofs.Printed.BoundsLemmas.{short_parts}

-- ---- names

other_way : (a b : Name) → bytes_eq a b ≡ false → bytes_eq b a ≡ false
other_way a b e = grind (arith, common_steps, bytes_eq-Decides a b, bytes_eq-Decides b a, e)

none_found : (ws : List Word) (name : Name) → list_any (λ w. bytes_eq w name) (map word_bytes ws) ≡ false → find (λ w. bytes_eq name (word_bytes w)) ws ≡ None
none_found [] name e = refl
none_found (w ∷ ws) name e =
    let parts = neither (bytes_eq (word_bytes w) name) (list_any (λ x. bytes_eq x name) (map word_bytes ws)) e in
    rw (other_way (word_bytes w) name parts.0) (none_found ws name parts.1)

name_terminal : (name : Name) → is_own_name name ≡ true → IsTerminal (terminals.Name name)
name_terminal name e =
    let parts = both_true (is_name name) (not (is_reserved name)) e in
    (parts.0, none_found all_words name (not_true (is_reserved name) parts.1))

-- and the other way: a name that is none of the words is not reserved
none_among_by : (w : Word) (ws : List Word) (name : Name) → (find (λ x. bytes_eq name (word_bytes x)) ws ≡ None → list_any (λ x. bytes_eq x name) (map word_bytes ws) ≡ false)
    → (same : Bool) → bytes_eq name (word_bytes w) ≡ same → cond same (Some w) (find (λ x. bytes_eq name (word_bytes x)) ws) ≡ None → list_any (λ x. bytes_eq x name) (map word_bytes (w ∷ ws)) ≡ false
none_among_by w ws name others true e h = cc
none_among_by w ws name others false e h = rw (other_way name (word_bytes w) e) (others h)

none_among : (ws : List Word) (name : Name) → find (λ w. bytes_eq name (word_bytes w)) ws ≡ None → list_any (λ w. bytes_eq w name) (map word_bytes ws) ≡ false
none_among [] name e = refl
none_among (w ∷ ws) name e = none_among_by w ws name (none_among ws name) (bytes_eq name (word_bytes w)) refl e

-- the name of a terminal is an own name
pub terminal_name : (name : Name) → IsTerminal (terminals.Name name) → is_own_name name ≡ true
terminal_name name h = and_from (is_name name) (not (is_reserved name)) h.0 (ap not (none_among all_words name h.1))

abbrev pub Own : List Name → Type 0
Own names = list_all is_own_name names ≡ true

abbrev pub Are : List Terminal → Type 0
Are ts = AllByRecursion IsTerminal ts

pub are_both : (ts us : List Terminal) → Are ts → Are us → Are (ts ++ us)
are_both [] us h k = k
are_both (t ∷ ts) us h k = (h.0, are_both ts us h.1 k)

pub own_first : (name : Name) (names : List Name) → Own (name ∷ names) → IsTerminal (terminals.Name name) × Own names
own_first name names e = let parts = both_true (is_own_name name) (list_all is_own_name names) e in (name_terminal name parts.0, parts.1)

pub own_parts : (names more : List Name) → Own (names ++ more) → Own names × Own more
own_parts names more e = both_true (list_all is_own_name names) (list_all is_own_name more) (sym (list_all-append is_own_name names more) ∙ e)

pub own_both : (names more : List Name) → Own names → Own more → Own (names ++ more)
own_both names more e f = list_all-append is_own_name names more ∙ and_from (list_all is_own_name names) (list_all is_own_name more) e f

-- ---- predicates

at_most : (n : ℕ) → nat_lt 64 n ≡ false → n ≤ 64
at_most n e = grind (arith, common_steps, e)

term_is : (t : Term) → Own (term_names t) → TermLiterals t → is_long_term t ≡ false → IsTerminal (term_token t)
term_is (Column name) own l e = (own_first name [] own).0
term_is (Literal (Int n)) own l e = l
term_is (Literal (Text bytes)) own l e = (at_most (length bytes) e, l)

-- each of the three trees of a predicate
abbrev AreOf : Levels → Type 0
AreOf l = Are (ors_text l.ors) × Are (ands_text l.ands) × Are (unit_text l.unit)

levels_are : (f : Formula) → Own (formula_names f) → FormulaLiterals f → has_long_literal f ≡ false → AreOf (levels f)
levels_are (compare l o r) own h e =
    let names = own_parts (term_names l) (term_names r) own in
    let fine = neither (is_long_term l) (is_long_term r) e in
    let are : Are (term_token l ∷ terminals.Sign o ∷ term_token r ∷ []) = (term_is l names.0 h.0 fine.0, (tt, (term_is r names.1 h.1 fine.1, tt))) in
    (are, are, are)
levels_are (not_so f) own h e = let part = (levels_are f own h e).2 in ((tt, part), (tt, part), (tt, part))
levels_are (both f g) own h e =
    let names = own_parts (formula_names f) (formula_names g) own in
    let fine = neither (has_long_literal f) (has_long_literal g) e in
    let a = (levels_are f names.0 h.0 fine.0).1 in
    let b = (levels_are g names.1 h.1 fine.1).2 in
    let are = are_both (ands_text (levels f).ands) (terminals.Word words.And ∷ unit_text (levels g).unit) a (tt, b) in
    (are, are, (tt, are_both (ands_text (levels f).ands ++ terminals.Word words.And ∷ unit_text (levels g).unit) (terminals.Mark marks.Close ∷ []) are (tt, tt)))
levels_are (either f g) own h e =
    let names = own_parts (formula_names f) (formula_names g) own in
    let fine = neither (has_long_literal f) (has_long_literal g) e in
    let a = (levels_are f names.0 h.0 fine.0).0 in
    let b = (levels_are g names.1 h.1 fine.1).1 in
    let are = are_both (ors_text (levels f).ors) (terminals.Word words.Or ∷ ands_text (levels g).ands) a (tt, b) in
    let closed = are_both (ors_text (levels f).ors ++ terminals.Word words.Or ∷ ands_text (levels g).ands) (terminals.Mark marks.Close ∷ []) are (tt, tt) in
    (are, (tt, closed), (tt, closed))

-- ---- lists

pub more_names_are : (names : List Name) → Own names → Are (more_names_text names)
more_names_are [] own = tt
more_names_are (name ∷ names) own = let parts = own_first name names own in (tt, (parts.0, more_names_are names parts.1))

keys_are : (keys : List Name) → Own keys → Are (keys_text keys)
keys_are [] own = (tt, (tt, tt))
keys_are (name ∷ names) own =
    let parts = own_first name names own in
    (tt, (parts.0, are_both (more_names_text names) (terminals.Mark marks.CloseKeys ∷ []) (more_names_are names parts.1) (tt, tt)))

more_pairs_are : (pairs : List (Name × Name)) → Own (pair_names pairs) → Are (more_pairs_text pairs)
more_pairs_are [] own = tt
more_pairs_are (p ∷ pairs) own =
    let first = own_first p.0 (p.1 ∷ pair_names pairs) own in
    let second = own_first p.1 (pair_names pairs) first.1 in
    (tt, (first.0, (tt, (second.0, more_pairs_are pairs second.1))))

item_by_test : (a b : Name) (same : Bool) → IsTerminal (terminals.Name a) → IsTerminal (terminals.Name b) → Are (item_text (cond same (Item.plain a) (Item.renamed a b)))
item_by_test a b true h k = (h, tt)
item_by_test a b false h k = (h, (tt, (k, tt)))

item_is : (pair : Name × Name) → IsTerminal (terminals.Name pair.0) → IsTerminal (terminals.Name pair.1) → Are (item_text (item_of pair))
item_is pair h k = item_by_test pair.0 pair.1 (bytes_eq pair.0 pair.1) h k

more_items_are : (pairs : List (Name × Name)) → Own (pair_names pairs) → Are (more_items_text (map item_of pairs))
more_items_are [] own = tt
more_items_are (p ∷ pairs) own =
    let first = own_first p.0 (p.1 ∷ pair_names pairs) own in
    let second = own_first p.1 (pair_names pairs) first.1 in
    (tt, are_both (item_text (item_of p)) (more_items_text (map item_of pairs)) (item_is p first.0 second.0) (more_items_are pairs second.1))

agg_is : (agg : NamedAgg) → Own (aggregate_names agg) → Are (agg_text agg)
agg_is Count own = (tt, tt)
agg_is (Sum name) own = (tt, (tt, ((own_first name [] own).0, (tt, tt))))
agg_is (Min name) own = (tt, (tt, ((own_first name [] own).0, (tt, tt))))
agg_is (Max name) own = (tt, (tt, ((own_first name [] own).0, (tt, tt))))

-- ---- expressions

-- the last list, with the parenthesis behind it
closed : (ts : List Terminal) → Are ts → Are (ts ++ terminals.Mark marks.Close ∷ [])
closed ts h = are_both ts (terminals.Mark marks.Close ∷ []) h (tt, tt)

-- an expression, a comma and what is behind it
then : (ts us : List Terminal) → Are ts → Are us → Are (ts ++ terminals.Mark marks.Comma ∷ us)
then ts us h k = are_both ts (terminals.Mark marks.Comma ∷ us) h (tt, k)

pub expr_are : (q : Query) → HasItems q → Own (query_names q) → HasLiterals q → list_any is_long (formulas_of q) ≡ false → Are (expr_text (tree_of q))
expr_are (base name) i own h e = ((own_first name [] own).0, tt)
expr_are (select q f) i own h e =
    let names = own_parts (query_names q) (formula_names f) own in
    let fine = neither (is_long f) (list_any is_long (formulas_of q)) e in
    let short = (neither (nat_lt 32 (comparisons f)) (has_long_literal f) fine.0).1 in
    let pred = (levels_are f names.1 h.1 short).0 in
    (tt, (tt, then (expr_text (tree_of q)) (ors_text (levels f).ors ++ terminals.Mark marks.Close ∷ []) (expr_are q i names.0 h.0 fine.1) (closed (ors_text (levels f).ors) pred)))
expr_are (project q []) i own h e = absurd (i.1 refl)
expr_are (project q (p ∷ pairs)) i own h e =
    let names = own_parts (query_names q) (pair_names (p ∷ pairs)) own in
    let first = own_first p.0 (p.1 ∷ pair_names pairs) names.1 in
    let second = own_first p.1 (pair_names pairs) first.1 in
    let more = closed (more_items_text (map item_of pairs)) (more_items_are pairs second.1) in
    (tt, (tt, then (expr_text (tree_of q)) (item_text (item_of p) ++ (more_items_text (map item_of pairs) ++ terminals.Mark marks.Close ∷ [])) (expr_are q i.0 names.0 h e) (are_both (item_text (item_of p)) (more_items_text (map item_of pairs) ++ terminals.Mark marks.Close ∷ []) (item_is p first.0 second.0) more)))
expr_are (join a b pairs) i own h e =
    let names = own_parts (query_names a) (query_names b ++ pair_names pairs) own in
    let more = own_parts (query_names b) (pair_names pairs) names.1 in
    let fine = short_parts a b e in
    let right = are_both (expr_text (tree_of b)) (more_pairs_text pairs ++ terminals.Mark marks.Close ∷ []) (expr_are b i.1 more.0 h.1 fine.1) (closed (more_pairs_text pairs) (more_pairs_are pairs more.1)) in
    (tt, (tt, then (expr_text (tree_of a)) (expr_text (tree_of b) ++ (more_pairs_text pairs ++ terminals.Mark marks.Close ∷ [])) (expr_are a i.0 names.0 h.0 fine.0) right))
expr_are (notin a b pairs) i own h e =
    let names = own_parts (query_names a) (query_names b ++ pair_names pairs) own in
    let more = own_parts (query_names b) (pair_names pairs) names.1 in
    let fine = short_parts a b e in
    let right = are_both (expr_text (tree_of b)) (more_pairs_text pairs ++ terminals.Mark marks.Close ∷ []) (expr_are b i.1 more.0 h.1 fine.1) (closed (more_pairs_text pairs) (more_pairs_are pairs more.1)) in
    (tt, (tt, then (expr_text (tree_of a)) (expr_text (tree_of b) ++ (more_pairs_text pairs ++ terminals.Mark marks.Close ∷ [])) (expr_are a i.0 names.0 h.0 fine.0) right))
expr_are (group q keys agg name) i own h e =
    let names = own_parts (query_names q) (keys ++ (aggregate_names agg ++ name ∷ [])) own in
    let more = own_parts keys (aggregate_names agg ++ name ∷ []) names.1 in
    let last = own_parts (aggregate_names agg) (name ∷ []) more.1 in
    let ends = terminals.Word words.As ∷ terminals.Name name ∷ terminals.Mark marks.Close ∷ [] in
    let named = are_both (agg_text agg) ends (agg_is agg last.0) (tt, ((own_first name [] last.1).0, (tt, tt))) in
    (tt, (tt, then (expr_text (tree_of q)) (keys_text keys ++ terminals.Mark marks.Comma ∷ (agg_text agg ++ ends)) (expr_are q i names.0 h e) (then (keys_text keys) (agg_text agg ++ ends) (keys_are keys more.0) named)))
expr_are (at_least q keys bound) i own h e =
    let names = own_parts (query_names q) keys own in
    (tt, (tt, then (expr_text (tree_of q)) (keys_text keys ++ terminals.Mark marks.Comma ∷ terminals.Integer bound ∷ terminals.Mark marks.Close ∷ []) (expr_are q i names.0 h.0 e) (then (keys_text keys) (terminals.Integer bound ∷ terminals.Mark marks.Close ∷ []) (keys_are keys names.1) (h.1, (tt, tt)))))
