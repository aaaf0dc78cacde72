-- A rule passes the bounds exactly where no rule of the grammar has its printed text, or a text literal is long.
use Rattle.std.proofs.Common.{◌≡◌, ℕ, zero, suc, ◌+◌, ◌≤◌, ◌||◌, Bool, false, nat_lt, List, [], ◌∷◌, ◌++◌, map, drop, Ok, ◌⊎◌, inl, inr, refl, sym, ap, subst, ◌∙◌, append_assoc, arith}
use Rattle.std.proofs.lemmas.Grind.{common_steps}
use Rattle.std.proofs.lemmas.List.Folds.{list_any-append}
use Rattle.std.specs.List.{list_any}
use Rattle.blz_value.proofs.Booleans.{neither}
use Rattle.bloom_forms.specs.Bounds as bounds
use Rattle.bloom_forms.specs.Bounds.{is_long, has_long_literal, formulas_of, query_levels}
use Rattle.bloom_forms.specs.Query.{Formula, Query}
use Rattle.bloom_forms.specs.Query.Formula.{compare, both, either, not_so}
use Rattle.bloom_forms.specs.Query.Query.{base, select, project, join, notin, group, at_least}
use Rattle.bloom_parse.specs.declared.lexing.terminal.Terminal.{Terminal}
use Rattle.bloom_parse.specs.declared.lexing.terminal.Terminal.TheVariants as terminals
use Rattle.bloom_parse.specs.declared.lexing.terminal.Word.TheVariants as words
use Rattle.bloom_parse.specs.declared.lexing.terminal.Mark.TheVariants as marks
use Rattle.bloom_parse.specs.Bounds.{HasPositiveBounds}
use Rattle.bloom_parse.specs.Laws.{BoundsLaw}
use Rattle.bloom_parse.specs.Layout.{Levels, levels, item_of, tree_of, rule_tree}
use Rattle.bloom_parse.specs.Trees.{UnitTree, AndsTree, OrsTree, Item, ExprTree, word, mark, unit_text, ands_text, ors_text, item_text, more_items_text, more_pairs_text, keys_text, agg_text, unit_size, ands_size, ors_size, UnitFits, AndsFit, OrsFit, expr_text, expr_query, ExprFits}
use Rattle.bloom_parse.proofs.Printed.BoundsLemmas.{levels_count, tree_fits, low}
use Rattle.bloom_parse.proofs.Grammar.ExprComplete.{expr_again}
use Rattle.bloom_parse.proofs.Grammar.ExprCorrect.{IsExpr, ReadsExpr, expr_reads}
use Rattle.bloom_parse.proofs.Machine.Machine.{Sym, State, run}
use Rattle.bloom_parse.proofs.Machine.MachineLemmas.{ands_go, ors_go}
use Rattle.bloom_parse.proofs.Printed.TreesLemmas.{flat_select, flat_project, flat_join, flat_notin, flat_group, flat_at_least}

-- ---- a text that passes the bounds is refused by the machine

abbrev IsRefused : ℕ → List Sym → List Terminal → Type 0
IsRefused k st ts = (s : State) → run k st ts ≡ Ok s → ⊥

-- what the machine does with a text is what it does with another
same_end : (k : ℕ) (st : List Sym) (ts : List Terminal) (l : ℕ) (su : List Sym) (us : List Terminal) → run k st ts ≡ run l su us → IsRefused l su us → IsRefused k st ts
same_end k st ts l su us e stuck s f = stuck s (sym e ∙ f)

abbrev UnitDecides : UnitTree → Type 0
UnitDecides u = (room k : ℕ) → (UnitFits room u × (unit_size u ≤ suc k)) ⊎ ((st : List Sym) (rest : List Terminal) → IsRefused k (Sym.unit room ∷ st) (unit_text u ++ rest))

abbrev AndsDecide : AndsTree → Type 0
AndsDecide a = (room k : ℕ) → (AndsFit room a × (ands_size a ≤ suc k)) ⊎ ((st : List Sym) (rest : List Terminal) → IsRefused k (Sym.unit room ∷ Sym.tail room ∷ st) (ands_text a ++ rest))

abbrev OrsDecide : OrsTree → Type 0
OrsDecide o = (room k : ℕ) → (OrsFit room o × (ors_size o ≤ suc k)) ⊎ ((st : List Sym) (rest : List Terminal) → IsRefused k (Sym.unit room ∷ Sym.tail room ∷ st) (ors_text o ++ rest))

-- how many comparisons are left behind so many
left_behind : (size k : ℕ) → size ≤ suc k → (left : ℕ) × (suc k ≡ size + left)
left_behind zero k few = (suc k, omega arith)
left_behind (suc size) zero few = (zero, omega (arith, few))
left_behind (suc size) (suc k) few = let rest = left_behind size k (omega (arith, few)) in (rest.0, omega (arith, rest.1))

-- `and` behind some units, and `or` behind some sums
and_decides : (a : AndsTree) (u : UnitTree) (room k left : ℕ) → UnitDecides u → AndsFit room a → suc k ≡ ands_size a + left
    → (AndsFit room (AndsTree.and_then a u) × (ands_size (AndsTree.and_then a u) ≤ suc k)) ⊎ ((st : List Sym) (rest : List Terminal) → IsRefused k (Sym.unit room ∷ Sym.tail room ∷ st) (ands_text (AndsTree.and_then a u) ++ rest))
and_decides a u room k zero unit fits size = inr (λ st rest s e.
    let to = ap (λ ts. run k (Sym.unit room ∷ Sym.tail room ∷ st) ts) (append_assoc (ands_text a) (word words.And ∷ unit_text u) rest) ∙ ands_go a room k zero st (word words.And ∷ (unit_text u ++ rest)) fits size in
    let bad = sym to ∙ e in cc)
and_decides a u room k (suc here) unit fits size = elim (unit room here) [
  | inl own ↦ inl ((fits, own.0), omega (arith, own.1, size))
  | inr stuck ↦ inr (λ st rest.
      same_end k (Sym.unit room ∷ Sym.tail room ∷ st) (ands_text (AndsTree.and_then a u) ++ rest) here (Sym.unit room ∷ Sym.tail room ∷ st) (unit_text u ++ rest)
      (ap (λ ts. run k (Sym.unit room ∷ Sym.tail room ∷ st) ts) (append_assoc (ands_text a) (word words.And ∷ unit_text u) rest) ∙ ands_go a room k (suc here) st (word words.And ∷ (unit_text u ++ rest)) fits size)
      (stuck (Sym.tail room ∷ st) rest))
]

or_decides : (o : OrsTree) (a : AndsTree) (room k left : ℕ) → AndsDecide a → OrsFit room o → suc k ≡ ors_size o + left
    → (OrsFit room (OrsTree.or_then o a) × (ors_size (OrsTree.or_then o a) ≤ suc k)) ⊎ ((st : List Sym) (rest : List Terminal) → IsRefused k (Sym.unit room ∷ Sym.tail room ∷ st) (ors_text (OrsTree.or_then o a) ++ rest))
or_decides o a room k zero ands fits size = inr (λ st rest s e.
    let to = ap (λ ts. run k (Sym.unit room ∷ Sym.tail room ∷ st) ts) (append_assoc (ors_text o) (word words.Or ∷ ands_text a) rest) ∙ ors_go o room k zero st (word words.Or ∷ (ands_text a ++ rest)) fits size in
    let bad = sym to ∙ e in cc)
or_decides o a room k (suc here) ands fits size = elim (ands room here) [
  | inl own ↦ inl ((fits, own.0), omega (arith, own.1, size))
  | inr stuck ↦ inr (λ st rest.
      same_end k (Sym.unit room ∷ Sym.tail room ∷ st) (ors_text (OrsTree.or_then o a) ++ rest) here (Sym.unit room ∷ Sym.tail room ∷ st) (ands_text a ++ rest)
      (ap (λ ts. run k (Sym.unit room ∷ Sym.tail room ∷ st) ts) (append_assoc (ors_text o) (word words.Or ∷ ands_text a) rest) ∙ ors_go o room k (suc here) st (word words.Or ∷ (ands_text a ++ rest)) fits size)
      (stuck st rest))
]

mutual
  unit_decides : (u : UnitTree) → UnitDecides u
  unit_decides (UnitTree.not_tree u) zero k = inr (λ st rest s e. cc)
  unit_decides (UnitTree.not_tree u) (suc room) k = elim (unit_decides u room k) [
    | inl own ↦ inl own
    | inr stuck ↦ inr (λ st rest. stuck st rest)
  ]
  unit_decides (UnitTree.in_parens p) zero k = inr (λ st rest s e. cc)
  unit_decides (UnitTree.in_parens p) (suc room) k = elim (ors_decide p room k) [
    | inl own ↦ inl own
    | inr stuck ↦ inr (λ st rest.
        same_end k (Sym.unit (suc room) ∷ st) (unit_text (UnitTree.in_parens p) ++ rest) k (Sym.unit room ∷ Sym.tail room ∷ st) (ors_text p ++ mark marks.Close ∷ rest)
        (ap (λ ts. run k (Sym.unit room ∷ Sym.tail room ∷ st) ts) (append_assoc (ors_text p) (mark marks.Close ∷ []) rest))
        (stuck st (mark marks.Close ∷ rest)))
  ]
  unit_decides (UnitTree.comparison l o r) room k = inl (tt, omega arith)

  ands_decide : (a : AndsTree) → AndsDecide a
  ands_decide (AndsTree.one_unit u) room k = elim (unit_decides u room k) [
    | inl own ↦ inl own
    | inr stuck ↦ inr (λ st rest. stuck (Sym.tail room ∷ st) rest)
  ]
  ands_decide (AndsTree.and_then a u) room k = elim (ands_decide a room k) [
    | inl own ↦ (let left = left_behind (ands_size a) k own.1 in and_decides a u room k left.0 (unit_decides u) own.0 left.1)
    | inr stuck ↦ inr (λ st rest.
        same_end k (Sym.unit room ∷ Sym.tail room ∷ st) (ands_text (AndsTree.and_then a u) ++ rest) k (Sym.unit room ∷ Sym.tail room ∷ st) (ands_text a ++ word words.And ∷ (unit_text u ++ rest))
        (ap (λ ts. run k (Sym.unit room ∷ Sym.tail room ∷ st) ts) (append_assoc (ands_text a) (word words.And ∷ unit_text u) rest))
        (stuck st (word words.And ∷ (unit_text u ++ rest))))
  ]

  ors_decide : (o : OrsTree) → OrsDecide o
  ors_decide (OrsTree.one_ands a) room k = ands_decide a room k
  ors_decide (OrsTree.or_then o a) room k = elim (ors_decide o room k) [
    | inl own ↦ (let left = left_behind (ors_size o) k own.1 in or_decides o a room k left.0 (ands_decide a) own.0 left.1)
    | inr stuck ↦ inr (λ st rest.
        same_end k (Sym.unit room ∷ Sym.tail room ∷ st) (ors_text (OrsTree.or_then o a) ++ rest) k (Sym.unit room ∷ Sym.tail room ∷ st) (ors_text o ++ word words.Or ∷ (ands_text a ++ rest))
        (ap (λ ts. run k (Sym.unit room ∷ Sym.tail room ∷ st) ts) (append_assoc (ors_text o) (word words.Or ∷ ands_text a) rest))
        (stuck st (word words.Or ∷ (ands_text a ++ rest))))
  ]

-- the machine takes the text of a fitting tree
record Goes (room : ℕ) (e : ExprTree) (rest : List Terminal) : Type 0 where
  next : ℕ → ℕ
  goes : (k : ℕ) (st : List Sym) → run k (Sym.expr room ∷ st) (expr_text e ++ rest) ≡ run (next k) st rest

expr_goes : (e : ExprTree) (room : ℕ) → ExprFits room e → (rest : List Terminal) → Goes room e rest
expr_goes e room fits rest =
    let r : IsExpr room (expr_text e ++ rest) (expr_query e, rest) = subst (ReadsExpr room (expr_text e ++ rest)) (expr_again e room fits rest) (expr_reads room (expr_text e ++ rest)) in
    record { next = r.next; goes = r.goes }

abbrev ExprDecides : ExprTree → Type 0
ExprDecides e = (room : ℕ) → ExprFits room e ⊎ ((k : ℕ) (st : List Sym) (rest : List Terminal) → IsRefused k (Sym.expr room ∷ st) (expr_text e ++ rest))

select_decides : (e : ExprTree) (p : OrsTree) → ExprDecides e → ExprDecides (ExprTree.of_select e p)
select_decides e p part zero = inr (λ k st rest s f. cc)
select_decides e p part (suc room) = elim (part room) [
  | inr stuck ↦ inr (λ k st rest.
      let behind = mark marks.Comma ∷ (ors_text p ++ mark marks.Close ∷ rest) in
      same_end k (Sym.expr (suc room) ∷ st) (expr_text (ExprTree.of_select e p) ++ rest) k (Sym.expr room ∷ Sym.first_unit room ∷ st) (expr_text e ++ behind)
      (ap (λ ts. run k (Sym.expr (suc room) ∷ st) ts) (flat_select e p rest))
      (stuck k (Sym.first_unit room ∷ st) behind))
  | inl fits ↦ elim (ors_decide p room 31) [
    | inl own ↦ inl (fits, own.0, own.1)
    | inr stuck ↦ inr (λ k st rest.
        let behind = mark marks.Comma ∷ (ors_text p ++ mark marks.Close ∷ rest) in
        let to = expr_goes e room fits behind in
        same_end k (Sym.expr (suc room) ∷ st) (expr_text (ExprTree.of_select e p) ++ rest) 31 (Sym.unit room ∷ Sym.tail room ∷ st) (ors_text p ++ mark marks.Close ∷ rest)
        (ap (λ ts. run k (Sym.expr (suc room) ∷ st) ts) (flat_select e p rest) ∙ to.goes k (Sym.first_unit room ∷ st))
        (stuck st (mark marks.Close ∷ rest)))
  ]
]

-- an operator over one part, behind whose text another text stands
part_decides : (e whole : ExprTree) (room : ℕ) (later : List Sym → List Sym) (behind : List Terminal → List Terminal) → (ExprFits room e → ExprFits (suc room) whole)
    → ((k : ℕ) (st : List Sym) (rest : List Terminal) → run k (Sym.expr (suc room) ∷ st) (expr_text whole ++ rest) ≡ run k (Sym.expr room ∷ later st) (expr_text e ++ behind rest))
    → ExprDecides e → ExprFits (suc room) whole ⊎ ((k : ℕ) (st : List Sym) (rest : List Terminal) → IsRefused k (Sym.expr (suc room) ∷ st) (expr_text whole ++ rest))
part_decides e whole room later behind fit starts part = elim (part room) [
  | inl fits ↦ inl (fit fits)
  | inr stuck ↦ inr (λ k st rest. same_end k (Sym.expr (suc room) ∷ st) (expr_text whole ++ rest) k (Sym.expr room ∷ later st) (expr_text e ++ behind rest) (starts k st rest) (stuck k (later st) (behind rest)))
]

-- an operator over two parts
parts_decide : (a b whole : ExprTree) (room : ℕ) (behind : List Terminal → List Terminal) → (ExprFits room a → ExprFits room b → ExprFits (suc room) whole)
    → ((k : ℕ) (st : List Sym) (rest : List Terminal) → run k (Sym.expr (suc room) ∷ st) (expr_text whole ++ rest) ≡ run k (Sym.expr room ∷ Sym.mark marks.Comma ∷ Sym.expr room ∷ Sym.more_pairs ∷ st) (expr_text a ++ mark marks.Comma ∷ (expr_text b ++ behind rest)))
    → ExprDecides a → ExprDecides b → ExprFits (suc room) whole ⊎ ((k : ℕ) (st : List Sym) (rest : List Terminal) → IsRefused k (Sym.expr (suc room) ∷ st) (expr_text whole ++ rest))
parts_decide a b whole room behind fit starts first second = elim (first room) [
  | inr stuck ↦ inr (λ k st rest.
      let after = mark marks.Comma ∷ (expr_text b ++ behind rest) in
      same_end k (Sym.expr (suc room) ∷ st) (expr_text whole ++ rest) k (Sym.expr room ∷ Sym.mark marks.Comma ∷ Sym.expr room ∷ Sym.more_pairs ∷ st) (expr_text a ++ after) (starts k st rest) (stuck k (Sym.mark marks.Comma ∷ Sym.expr room ∷ Sym.more_pairs ∷ st) after))
  | inl own ↦ elim (second room) [
    | inl other ↦ inl (fit own other)
    | inr stuck ↦ inr (λ k st rest.
        let to = expr_goes a room own (mark marks.Comma ∷ (expr_text b ++ behind rest)) in
        same_end k (Sym.expr (suc room) ∷ st) (expr_text whole ++ rest) (to.next k) (Sym.expr room ∷ Sym.more_pairs ∷ st) (expr_text b ++ behind rest)
        (starts k st rest ∙ to.goes k (Sym.mark marks.Comma ∷ Sym.expr room ∷ Sym.more_pairs ∷ st))
        (stuck (to.next k) (Sym.more_pairs ∷ st) (behind rest)))
  ]
]

-- a text is within the bounds, or the machine refuses it
query_decides : (q : Query) → HasPositiveBounds q → ExprDecides (tree_of q)
query_decides (base name) bound zero = inl tt
query_decides (base name) bound (suc room) = inl tt
query_decides (select q f) bound room = select_decides (tree_of q) (levels f).ors (query_decides q bound) room
query_decides (project q []) bound zero = inr (λ k st rest s e. cc)
query_decides (project q []) bound (suc room) =
    part_decides (tree_of q) (tree_of (project q [])) room (λ st. Sym.mark marks.Comma ∷ Sym.a_name ∷ Sym.item_end ∷ st) (λ rest. mark marks.Comma ∷ terminals.Name [] ∷ mark marks.Close ∷ rest) (λ fits. fits)
    (λ k st rest. ap (λ ts. run k (Sym.expr (suc room) ∷ st) ts) (flat_project (tree_of q) (Item.plain []) [] rest))
    (query_decides q bound)
query_decides (project q (i ∷ items)) bound zero = inr (λ k st rest s e. cc)
query_decides (project q (i ∷ items)) bound (suc room) =
    part_decides (tree_of q) (tree_of (project q (i ∷ items))) room (λ st. Sym.mark marks.Comma ∷ Sym.a_name ∷ Sym.item_end ∷ st) (λ rest. mark marks.Comma ∷ (item_text (item_of i) ++ (more_items_text (map item_of items) ++ mark marks.Close ∷ rest))) (λ fits. fits)
    (λ k st rest. ap (λ ts. run k (Sym.expr (suc room) ∷ st) ts) (flat_project (tree_of q) (item_of i) (map item_of items) rest))
    (query_decides q bound)
query_decides (join a b pairs) bound zero = inr (λ k st rest s e. cc)
query_decides (join a b pairs) bound (suc room) =
    parts_decide (tree_of a) (tree_of b) (tree_of (join a b pairs)) room (λ rest. more_pairs_text pairs ++ mark marks.Close ∷ rest) (λ f g. (f, g))
    (λ k st rest. ap (λ ts. run k (Sym.expr (suc room) ∷ st) ts) (flat_join (tree_of a) (tree_of b) pairs rest))
    (query_decides a bound.0) (query_decides b bound.1)
query_decides (notin a b pairs) bound zero = inr (λ k st rest s e. cc)
query_decides (notin a b pairs) bound (suc room) =
    parts_decide (tree_of a) (tree_of b) (tree_of (notin a b pairs)) room (λ rest. more_pairs_text pairs ++ mark marks.Close ∷ rest) (λ f g. (f, g))
    (λ k st rest. ap (λ ts. run k (Sym.expr (suc room) ∷ st) ts) (flat_notin (tree_of a) (tree_of b) pairs rest))
    (query_decides a bound.0) (query_decides b bound.1)
query_decides (group q keys agg name) bound zero = inr (λ k st rest s e. cc)
query_decides (group q keys agg name) bound (suc room) =
    part_decides (tree_of q) (tree_of (group q keys agg name)) room (λ st. Sym.mark marks.Comma ∷ Sym.mark marks.OpenKeys ∷ Sym.first_key ∷ Sym.mark marks.Comma ∷ Sym.an_agg ∷ Sym.the_as ∷ Sym.a_name ∷ Sym.mark marks.Close ∷ st) (λ rest. mark marks.Comma ∷ (keys_text keys ++ mark marks.Comma ∷ (agg_text agg ++ word words.As ∷ terminals.Name name ∷ mark marks.Close ∷ rest))) (λ fits. fits)
    (λ k st rest. ap (λ ts. run k (Sym.expr (suc room) ∷ st) ts) (flat_group (tree_of q) keys agg name rest))
    (query_decides q bound)
query_decides (at_least q keys bound) positive zero = inr (λ k st rest s e. cc)
query_decides (at_least q keys bound) positive (suc room) =
    part_decides (tree_of q) (tree_of (at_least q keys bound)) room (λ st. Sym.mark marks.Comma ∷ Sym.mark marks.OpenKeys ∷ Sym.first_key ∷ Sym.mark marks.Comma ∷ Sym.a_bound ∷ Sym.mark marks.Close ∷ st) (λ rest. mark marks.Comma ∷ (keys_text keys ++ mark marks.Comma ∷ terminals.Integer bound ∷ mark marks.Close ∷ rest)) (λ fits. (fits, positive.1))
    (λ k st rest. ap (λ ts. run k (Sym.expr (suc room) ∷ st) ts) (flat_at_least (tree_of q) keys bound rest))
    (query_decides q positive.0)

-- where some tree within the bounds has the text of an expression, the expression's own tree is within them
fits_by_text : (e : ExprTree) (q : Query) → HasPositiveBounds q → ExprFits 32 e → expr_text e ≡ expr_text (tree_of q) → ExprFits 32 (tree_of q)
fits_by_text e q bound fits same = elim (query_decides q bound 32) [
  | inl own ↦ own
  | inr stuck ↦ absurd (let to = expr_goes e 32 fits [] in
      stuck 0 [] [] (to.next 0, []) (ap (λ (ts : List Terminal). run 0 (Sym.expr 32 ∷ []) (ts ++ [])) (sym same) ∙ to.goes 0 []))
]

-- ---- a tree within the bounds has few levels and few comparisons

abbrev LeastOf : Formula → Levels → ℕ → Type 0
LeastOf f l room =
    (OrsFit room l.ors → bounds.levels f ≤ room)
    × (AndsFit room l.ands → bounds.within (bounds.is_either f) (bounds.levels f) ≤ room)
    × (UnitFits room l.unit → bounds.within (bounds.is_joined f) (bounds.levels f) ≤ room)

levels_least : (f : Formula) (room : ℕ) → LeastOf f (levels f) room
levels_least (compare l o r) room = (λ h. omega arith, λ h. omega arith, λ h. omega arith)
levels_least (not_so f) zero = (λ h. absurd h, λ h. absurd h, λ h. absurd h)
levels_least (not_so f) (suc room) = let part = (levels_least f room).2 in (λ h. omega (arith, part h), λ h. omega (arith, part h), λ h. omega (arith, part h))
levels_least (both f g) zero =
    let a = (levels_least f zero).1 in
    let b = (levels_least g zero).2 in
    (λ h. omega (arith, a h.0, b h.1), λ h. omega (arith, a h.0, b h.1), λ h. absurd h)
levels_least (both f g) (suc room) =
    let a = (levels_least f (suc room)).1 in
    let b = (levels_least g (suc room)).2 in
    (λ h. omega (arith, a h.0, b h.1), λ h. omega (arith, a h.0, b h.1), λ h. omega (arith, (levels_least f room).1 h.0, (levels_least g room).2 h.1))
levels_least (either f g) zero = (λ h. omega (arith, (levels_least f zero).0 h.0, (levels_least g zero).1 h.1), λ h. absurd h, λ h. absurd h)
levels_least (either f g) (suc room) =
    let a = (levels_least f room).0 in
    let b = (levels_least g room).1 in
    (λ h. omega (arith, (levels_least f (suc room)).0 h.0, (levels_least g (suc room)).1 h.1), λ h. omega (arith, a h.0, b h.1), λ h. omega (arith, a h.0, b h.1))

-- more than 32 comparisons
abbrev has_many : Formula → Bool
has_many f = nat_lt 32 (bounds.comparisons f)

not_many : (f : Formula) → ors_size (levels f).ors ≤ 32 → has_many f ≡ false
not_many f few = let same = (levels_count f).0 in grind (arith, common_steps, few, same)

-- few levels, and no predicate with many comparisons
abbrev IsLow : ℕ → Query → Type 0
IsLow room q = (query_levels q ≤ room) × (list_any has_many (formulas_of q) ≡ false)

none_of_both : (a b : List Formula) → list_any has_many a ≡ false → list_any has_many b ≡ false → list_any has_many (a ++ b) ≡ false
none_of_both a b f g = list_any-append has_many a b ∙ ap (λ x. x || list_any has_many b) f ∙ g

one_higher : (n room : ℕ) → n ≤ room → suc n ≤ suc room
one_higher n room h = omega (arith, h)

low_of_fits : (q : Query) (room : ℕ) → ExprFits room (tree_of q) → IsLow room q
low_of_fits (base name) room fits = (omega arith, refl)
low_of_fits (select q f) zero fits = absurd fits
low_of_fits (select q f) (suc room) fits =
    let part = low_of_fits q room fits.0 in
    (omega (arith, part.0, (levels_least f room).0 fits.1), ap (λ x. x || list_any has_many (formulas_of q)) (not_many f fits.2) ∙ part.1)
low_of_fits (project q []) zero fits = absurd fits
low_of_fits (project q []) (suc room) fits = let part = low_of_fits q room fits in (one_higher (query_levels q) room part.0, part.1)
low_of_fits (project q (i ∷ items)) zero fits = absurd fits
low_of_fits (project q (i ∷ items)) (suc room) fits = let part = low_of_fits q room fits in (one_higher (query_levels q) room part.0, part.1)
low_of_fits (join a b pairs) zero fits = absurd fits
low_of_fits (join a b pairs) (suc room) fits =
    let first = low_of_fits a room fits.0 in
    let second = low_of_fits b room fits.1 in
    (omega (arith, first.0, second.0), none_of_both (formulas_of a) (formulas_of b) first.1 second.1)
low_of_fits (notin a b pairs) zero fits = absurd fits
low_of_fits (notin a b pairs) (suc room) fits =
    let first = low_of_fits a room fits.0 in
    let second = low_of_fits b room fits.1 in
    (omega (arith, first.0, second.0), none_of_both (formulas_of a) (formulas_of b) first.1 second.1)
low_of_fits (group q keys agg name) zero fits = absurd fits
low_of_fits (group q keys agg name) (suc room) fits = let part = low_of_fits q room fits in (one_higher (query_levels q) room part.0, part.1)
low_of_fits (at_least q keys bound) zero fits = absurd fits
low_of_fits (at_least q keys bound) (suc room) fits = let part = low_of_fits q room fits.0 in (one_higher (query_levels q) room part.0, part.1)

-- ---- both directions

not_long : (f : Formula) (fs : List Formula) → has_many f ≡ false → has_long_literal f ≡ false → list_any is_long fs ≡ false → list_any is_long (f ∷ fs) ≡ false
not_long f fs many long rest = ap (λ x. (x || has_long_literal f) || list_any is_long fs) many ∙ ap (λ x. x || list_any is_long fs) long ∙ rest

none_long : (fs : List Formula) → list_any has_many fs ≡ false → list_any has_long_literal fs ≡ false → list_any is_long fs ≡ false
none_long [] many long = refl
none_long (f ∷ fs) many long =
    let first = neither (has_many f) (list_any has_many fs) many in
    let second = neither (has_long_literal f) (list_any has_long_literal fs) long in
    not_long f fs first.0 second.0 (none_long fs first.1 second.1)

short_of_none : (fs : List Formula) → list_any is_long fs ≡ false → list_any has_long_literal fs ≡ false
short_of_none [] none = refl
short_of_none (f ∷ fs) none =
    let parts = neither (is_long f) (list_any is_long fs) none in
    ap (λ x. x || list_any has_long_literal fs) (neither (has_many f) (has_long_literal f) parts.0).1 ∙ short_of_none fs parts.1

not_deep : (n : ℕ) → n ≤ 32 → nat_lt 32 n ≡ false
not_deep n h = grind (arith, common_steps, h)

-- what stands before the same last token is the same
last_same : (a b : List Terminal) → a ++ mark marks.Semicolon ∷ [] ≡ b ++ mark marks.Semicolon ∷ [] → a ≡ b
last_same [] [] e = refl
last_same [] (u ∷ []) e = cc
last_same [] (u ∷ v ∷ b) e = cc
last_same (t ∷ []) [] e = cc
last_same (t ∷ s ∷ a) [] e = cc
last_same (t ∷ a) (u ∷ b) e =
    let same : t ≡ u = cc in
    let tails : a ++ mark marks.Semicolon ∷ [] ≡ b ++ mark marks.Semicolon ∷ [] = cc in
    ap (λ (x : Terminal). x ∷ a) same ∙ ap (λ (xs : List Terminal). u ∷ xs) (last_same a b tails)

pub bounds_law : BoundsLaw
bounds_law rule bound = (
  λ none.
      let parts = neither (nat_lt 32 (query_levels rule.1)) (list_any is_long (formulas_of rule.1)) none in
      (record { tree = rule_tree rule; fits = tree_fits rule.1 32 (low (query_levels rule.1) parts.0) parts.1 bound; text = refl }, short_of_none (formulas_of rule.1) parts.1),
  λ h.
      let own = fits_by_text h.0.tree.body rule.1 bound h.0.fits (last_same (expr_text h.0.tree.body) (expr_text (tree_of rule.1)) (ap (λ (ts : List Terminal). drop 2 ts) h.0.text)) in
      let is_low = low_of_fits rule.1 32 own in
      ap (λ x. x || list_any is_long (formulas_of rule.1)) (not_deep (query_levels rule.1) is_low.0) ∙ none_long (formulas_of rule.1) is_low.1 h.1,
)
