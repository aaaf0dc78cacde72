-- Each expression of the grammar is read as what it means.
use Rattle.std.proofs.Common.{◌≡◌, ℕ, zero, suc, ◌-◌, ◌≤◌, List, ◌∷◌, ◌++◌, map, Result, Ok, refl, ap, ◌∙◌, arith}
use Rattle.std.specs.Prelude.{ℤ, pos, ◌≤ℤ◌}
use Rattle.bloom_forms.specs.Query.{Name, Query}
use Rattle.bloom_parse.specs.declared.lexing.terminal.Terminal.{Terminal}
use Rattle.bloom_parse.specs.declared.lexing.terminal.Terminal.TheVariants as terminals
use Rattle.bloom_parse.specs.declared.lexing.terminal.Word.TheVariants as words
use Rattle.bloom_parse.specs.declared.lexing.terminal.Mark.TheVariants as marks
use Rattle.bloom_forms.specs.declared.expr.NamedAgg.{NamedAgg}
use Rattle.bloom_forms.specs.Query.Query.{base, select, project, join, notin, group, at_least}
use Rattle.bloom_parse.specs.Trees.{OrsTree, word, mark, ors_text, ors_size, OrsFit, ors_formula, Item, ExprTree, item_text, item_pair, more_items_text, more_pairs_text, keys_text, agg_text, expr_text, expr_query, ExprFits}
use Rattle.bloom_parse.specs.Code.ReadingSingle.{◌>>=◌, mark_at, name_at, as_at, bound_at}
use Rattle.bloom_parse.specs.Code.ReadingPredicates.{Read, pred_by, unit_at}
use Rattle.bloom_parse.specs.Code.ReadingLists.{item_at, items_at, pairs_at, keys_at, agg_at}
use Rattle.bloom_parse.specs.Code.ReadingExprs.{ReadQuery, opened_by, select_by, project_by, parts_by, keyed_by, group_by, at_least_by, expr_at}
use Rattle.bloom_parse.proofs.Printed.TreesLemmas.{flat_select, flat_project, flat_join, flat_notin, flat_group, flat_at_least}
use Rattle.bloom_parse.proofs.Grammar.SingleCorrect.{bound_again}
use Rattle.bloom_parse.proofs.Grammar.PredicateComplete.{pred_ends, ors_again}
use Rattle.bloom_parse.proofs.Grammar.ListLemmas.{item_again, no_as, items_again, pairs_again, keys_again, agg_again}

abbrev done : Query → List Terminal → ReadQuery
done q rest = Ok (q, rest)

abbrev Parts : Type 0
Parts = Result (Query × Query × List (Name × Name) × List Terminal) ℕ

abbrev parted : Query → Query → List (Name × Name) → List Terminal → Parts
parted a b pairs rest = Ok (a, b, pairs, rest)

abbrev Keyed : Type 0
Keyed = Result (Query × List Name × List Terminal) ℕ

abbrev keyed : Query → List Name → List Terminal → Keyed
keyed q keys rest = Ok (q, keys, rest)

-- an expression is read again, whatever stands behind it
abbrev Again : ℕ → ExprTree → Type 0
Again room e = (rest : List Terminal) → expr_at room (expr_text e ++ rest) ≡ done (expr_query e) rest

opened_again : (e : ExprTree) (room : ℕ) (rest : List Terminal) → Again room e → opened_by (expr_at room) (mark marks.Open ∷ (expr_text e ++ mark marks.Comma ∷ rest)) ≡ done (expr_query e) rest
unfolding opened_by
opened_again e room rest again = ap (λ (r : ReadQuery). r >>= λ e. mark_at marks.Comma e.1 >>= λ a. done e.0 a) (again (mark marks.Comma ∷ rest))

select_again : (e : ExprTree) (p : OrsTree) (room : ℕ) (rest : List Terminal) → Again room e → OrsFit room p → ors_size p ≤ 32 → expr_at (suc room) (expr_text (ExprTree.of_select e p) ++ rest) ≡ done (select (expr_query e) (ors_formula p)) rest
unfolding expr_at select_by
select_again e p room rest again fits few =
    ap (λ (t : List Terminal). expr_at (suc room) t) (flat_select e p rest)
    ∙ ap (λ (r : ReadQuery). r >>= λ e. pred_by (unit_at room) 31 e.1 >>= λ p. mark_at marks.Close p.2 >>= λ c. done (select e.0 p.0) c) (opened_again e room (ors_text p ++ mark marks.Close ∷ rest) again)
    ∙ ap (λ (r : Read). r >>= λ p. mark_at marks.Close p.2 >>= λ c. done (select (expr_query e) p.0) c) (pred_ends p room 31 (32 - ors_size p) rest (ors_again p room 31 (32 - ors_size p) (mark marks.Close ∷ rest) fits (omega (arith, few)) (omega arith)))

project_again : (e : ExprTree) (i : Item) (items : List Item) (room : ℕ) (rest : List Terminal) → Again room e → expr_at (suc room) (expr_text (ExprTree.of_project e i items) ++ rest) ≡ done (project (expr_query e) (map item_pair (i ∷ items))) rest
unfolding expr_at project_by
project_again e i items room rest again =
    let more = more_items_text items ++ mark marks.Close ∷ rest in
    ap (λ (t : List Terminal). expr_at (suc room) t) (flat_project e i items rest)
    ∙ ap (λ (r : ReadQuery). r >>= λ e. item_at e.1 >>= λ i. items_at i.0 i.1 >>= λ is. mark_at marks.Close is.1 >>= λ c. done (project e.0 is.0) c) (opened_again e room (item_text i ++ more) again)
    ∙ ap (λ (r : Result ((Name × Name) × List Terminal) ℕ). r >>= λ i. items_at i.0 i.1 >>= λ is. mark_at marks.Close is.1 >>= λ c. done (project (expr_query e) is.0) c) (item_again i more (no_as items rest))
    ∙ ap (λ (r : Result (List (Name × Name) × List Terminal) ℕ). r >>= λ is. mark_at marks.Close is.1 >>= λ c. done (project (expr_query e) is.0) c) (items_again (item_pair i) items rest)

parts_again : (a b : ExprTree) (pairs : List (Name × Name)) (room : ℕ) (rest : List Terminal) → Again room a → Again room b → parts_by (expr_at room) (mark marks.Open ∷ (expr_text a ++ mark marks.Comma ∷ (expr_text b ++ (more_pairs_text pairs ++ mark marks.Close ∷ rest)))) ≡ parted (expr_query a) (expr_query b) pairs rest
unfolding parts_by
parts_again a b pairs room rest first second =
    let more = more_pairs_text pairs ++ mark marks.Close ∷ rest in
    ap (λ (r : ReadQuery). r >>= λ a. expr_at room a.1 >>= λ b. pairs_at b.1 >>= λ ps. mark_at marks.Close ps.1 >>= λ c. parted a.0 b.0 ps.0 c) (opened_again a room (expr_text b ++ more) first)
    ∙ ap (λ (r : ReadQuery). r >>= λ b. pairs_at b.1 >>= λ ps. mark_at marks.Close ps.1 >>= λ c. parted (expr_query a) b.0 ps.0 c) (second more)
    ∙ ap (λ (r : Result (List (Name × Name) × List Terminal) ℕ). r >>= λ ps. mark_at marks.Close ps.1 >>= λ c. parted (expr_query a) (expr_query b) ps.0 c) (pairs_again pairs rest)

join_again : (a b : ExprTree) (pairs : List (Name × Name)) (room : ℕ) (rest : List Terminal) → Again room a → Again room b → expr_at (suc room) (expr_text (ExprTree.of_join a b pairs) ++ rest) ≡ done (join (expr_query a) (expr_query b) pairs) rest
unfolding expr_at
join_again a b pairs room rest first second =
    ap (λ (t : List Terminal). expr_at (suc room) t) (flat_join a b pairs rest)
    ∙ ap (λ (r : Parts). r >>= λ p. done (join p.0 p.1 p.2) p.3) (parts_again a b pairs room rest first second)

notin_again : (a b : ExprTree) (pairs : List (Name × Name)) (room : ℕ) (rest : List Terminal) → Again room a → Again room b → expr_at (suc room) (expr_text (ExprTree.of_notin a b pairs) ++ rest) ≡ done (notin (expr_query a) (expr_query b) pairs) rest
unfolding expr_at
notin_again a b pairs room rest first second =
    ap (λ (t : List Terminal). expr_at (suc room) t) (flat_notin a b pairs rest)
    ∙ ap (λ (r : Parts). r >>= λ p. done (notin p.0 p.1 p.2) p.3) (parts_again a b pairs room rest first second)

keyed_again : (e : ExprTree) (keys : List Name) (room : ℕ) (rest : List Terminal) → Again room e → keyed_by (expr_at room) (mark marks.Open ∷ (expr_text e ++ mark marks.Comma ∷ (keys_text keys ++ mark marks.Comma ∷ rest))) ≡ keyed (expr_query e) keys rest
unfolding keyed_by
keyed_again e keys room rest again =
    ap (λ (r : ReadQuery). r >>= λ e. keys_at e.1 >>= λ ks. mark_at marks.Comma ks.1 >>= λ c. keyed e.0 ks.0 c) (opened_again e room (keys_text keys ++ mark marks.Comma ∷ rest) again)
    ∙ ap (λ (r : Result (List Name × List Terminal) ℕ). r >>= λ ks. mark_at marks.Comma ks.1 >>= λ c. keyed (expr_query e) ks.0 c) (keys_again keys (mark marks.Comma ∷ rest))

group_again : (e : ExprTree) (keys : List Name) (agg : NamedAgg) (n : Name) (room : ℕ) (rest : List Terminal) → Again room e → expr_at (suc room) (expr_text (ExprTree.of_group e keys agg n) ++ rest) ≡ done (group (expr_query e) keys agg n) rest
unfolding expr_at group_by
group_again e keys agg n room rest again =
    let named = word words.As ∷ terminals.Name n ∷ mark marks.Close ∷ rest in
    ap (λ (t : List Terminal). expr_at (suc room) t) (flat_group e keys agg n rest)
    ∙ ap (λ (r : Keyed). r >>= λ e. agg_at e.2 >>= λ a. as_at a.1 >>= λ s. name_at s >>= λ n. mark_at marks.Close n.1 >>= λ c. done (group e.0 e.1 a.0 n.0) c) (keyed_again e keys room (agg_text agg ++ named) again)
    ∙ ap (λ (r : Result (NamedAgg × List Terminal) ℕ). r >>= λ a. as_at a.1 >>= λ s. name_at s >>= λ n. mark_at marks.Close n.1 >>= λ c. done (group (expr_query e) keys a.0 n.0) c) (agg_again agg named)

at_least_again : (e : ExprTree) (keys : List Name) (bound : ℤ) (room : ℕ) (rest : List Terminal) → Again room e → pos 1 ≤ℤ bound → expr_at (suc room) (expr_text (ExprTree.of_at_least e keys bound) ++ rest) ≡ done (at_least (expr_query e) keys bound) rest
unfolding expr_at at_least_by
at_least_again e keys bound room rest again some =
    ap (λ (t : List Terminal). expr_at (suc room) t) (flat_at_least e keys bound rest)
    ∙ ap (λ (r : Keyed). r >>= λ e. bound_at e.2 >>= λ b. mark_at marks.Close b.1 >>= λ c. done (at_least e.0 e.1 b.0) c) (keyed_again e keys room (terminals.Integer bound ∷ mark marks.Close ∷ rest) again)
    ∙ ap (λ (r : Result (ℤ × List Terminal) ℕ). r >>= λ b. mark_at marks.Close b.1 >>= λ c. done (at_least (expr_query e) keys b.0) c) (bound_again bound (mark marks.Close ∷ rest) some)

base_again : (n : Name) (room : ℕ) (rest : List Terminal) → expr_at room (terminals.Name n ∷ rest) ≡ done (base n) rest
unfolding expr_at
base_again n zero rest = refl
base_again n (suc room) rest = refl

pub expr_again : (e : ExprTree) (room : ℕ) → ExprFits room e → (rest : List Terminal) → expr_at room (expr_text e ++ rest) ≡ done (expr_query e) rest
expr_again (ExprTree.of_base n) room fits = base_again n room
expr_again (ExprTree.of_select e p) zero fits = absurd fits
expr_again (ExprTree.of_select e p) (suc room) fits = λ rest. select_again e p room rest (expr_again e room fits.0) fits.1 fits.2
expr_again (ExprTree.of_project e i items) zero fits = absurd fits
expr_again (ExprTree.of_project e i items) (suc room) fits = λ rest. project_again e i items room rest (expr_again e room fits)
expr_again (ExprTree.of_join a b pairs) zero fits = absurd fits
expr_again (ExprTree.of_join a b pairs) (suc room) fits = λ rest. join_again a b pairs room rest (expr_again a room fits.0) (expr_again b room fits.1)
expr_again (ExprTree.of_notin a b pairs) zero fits = absurd fits
expr_again (ExprTree.of_notin a b pairs) (suc room) fits = λ rest. notin_again a b pairs room rest (expr_again a room fits.0) (expr_again b room fits.1)
expr_again (ExprTree.of_group e keys agg n) zero fits = absurd fits
expr_again (ExprTree.of_group e keys agg n) (suc room) fits = λ rest. group_again e keys agg n room rest (expr_again e room fits)
expr_again (ExprTree.of_at_least e keys bound) zero fits = absurd fits
expr_again (ExprTree.of_at_least e keys bound) (suc room) fits = λ rest. at_least_again e keys bound room rest (expr_again e room fits.0) fits.1
