-- What is read as an expression is one, and a fault is where the machine stops.
use Rattle.std.proofs.Common.{◌≡◌, ℕ, zero, suc, List, [], ◌∷◌, ◌++◌, map, Result, Ok, Err, refl, sym, ap, ◌∙◌, arith}
use Rattle.bloom_forms.specs.Query.{Name, Query}
use Rattle.bloom_parse.specs.declared.lexing.terminal.Terminal.{Terminal}
use Rattle.bloom_parse.specs.declared.lexing.terminal.Terminal.TheVariants as terminals
use Rattle.bloom_parse.specs.declared.lexing.terminal.Word.TheVariants as words
use Rattle.bloom_parse.specs.declared.lexing.terminal.Mark.TheVariants as marks
use Rattle.bloom_forms.specs.Query.Query.{select, project, join, notin, group, at_least}
use Rattle.bloom_parse.specs.Trees.{word, mark, ors_text, ors_formula, ExprTree, item_text, item_pair, more_items_text, more_pairs_text, keys_text, agg_text, expr_text, expr_query, ExprFits}
use Rattle.bloom_parse.specs.Code.ReadingSingle.{◌>>=◌, mark_at, name_at, as_at, bound_at}
use Rattle.bloom_parse.specs.Code.ReadingPredicates.{pred_by, unit_at}
use Rattle.bloom_parse.specs.Code.ReadingLists.{item_at, items_at, pairs_at, keys_at, agg_at}
use Rattle.bloom_parse.specs.Code.ReadingExprs.{ReadQuery, opened_by, select_by, project_by, parts_by, keyed_by, group_by, at_least_by, expr_at}
use Rattle.bloom_parse.proofs.Machine.Machine.{Sym, run}
use Rattle.bloom_parse.proofs.Printed.TreesLemmas.{flat_select, flat_project, flat_join, flat_notin, flat_group, flat_at_least}
use Rattle.bloom_parse.proofs.Grammar.SingleCorrect.{bind_reads, Stuck, ReadsMark, mark_reads, ReadsName, name_reads, ReadsAs, as_reads, ReadsBound, bound_reads, bound_goes}
use Rattle.bloom_parse.proofs.Grammar.PredicateCorrect.{ReadsPred, pred_reads, unit_reads, pred_goes}
use Rattle.bloom_parse.proofs.Grammar.RepeatLemmas.{ReadsMore}
use Rattle.bloom_parse.proofs.Grammar.ListLemmas.{item_kind, ReadsItem, item_reads, items_reads, ReadsPairs, pairs_reads, ReadsKeys, keys_reads, ReadsAgg, agg_reads, agg_goes}

pub record IsExpr (room : ℕ) (ts : List Terminal) (x : Query × List Terminal) : Type 0 where
  pub tree : ExprTree
  pub fits : ExprFits room tree
  pub text : expr_text tree ++ x.1 ≡ ts
  pub means : expr_query tree ≡ x.0
  pub next : ℕ → ℕ
  pub goes : (k : ℕ) (st : List Sym) → run k (Sym.expr room ∷ st) ts ≡ run (next k) st x.1

abbrev pub ReadsExpr : ℕ → List Terminal → ReadQuery → Type 0
ReadsExpr room ts (Ok x) = IsExpr room ts x
ReadsExpr room ts (Err n) = Stuck (λ st. Sym.expr room ∷ st) ts n

abbrev pub Exprs : ℕ → Type 0
Exprs room = (ts : List Terminal) → ReadsExpr room ts (expr_at room ts)

-- ---- "(" expr ","

-- a comma, where so much is to come
abbrev ReadsComma : (List Sym → List Sym) → List Terminal → Result (List Terminal) ℕ → Type 0
ReadsComma last ts (Ok rest) = mark marks.Comma ∷ rest ≡ ts
ReadsComma last ts (Err n) = Stuck last ts n

-- the comma before a predicate
first_reads : (room : ℕ) (ts : List Terminal) → ReadsComma (λ st. Sym.first_unit room ∷ st) ts (mark_at marks.Comma ts)
first_reads room [] = λ k st. refl
first_reads room (terminals.Mark marks.Comma ∷ rest) = refl
first_reads room (t ∷ rest) = λ k st. refl

comma_cases : (behind : List Sym → List Sym) (ts : List Terminal) (r : Result (List Terminal) ℕ) → ReadsMark marks.Comma ts r → ReadsComma (λ st. Sym.mark marks.Comma ∷ behind st) ts r
comma_cases behind ts (Ok rest) h = h
comma_cases behind ts (Err n) h = λ k st. h k (behind st)

comma_reads : (behind : List Sym → List Sym) (ts : List Terminal) → ReadsComma (λ st. Sym.mark marks.Comma ∷ behind st) ts (mark_at marks.Comma ts)
comma_reads behind ts = comma_cases behind ts (mark_at marks.Comma ts) (mark_reads marks.Comma ts)

record IsOpened (room : ℕ) (ts : List Terminal) (x : Query × List Terminal) : Type 0 where
  tree : ExprTree
  fits : ExprFits room tree
  text : mark marks.Open ∷ (expr_text tree ++ mark marks.Comma ∷ x.1) ≡ ts
  means : expr_query tree ≡ x.0
  next : ℕ → ℕ
  goes : (k : ℕ) (st : List Sym) → run k (Sym.mark marks.Open ∷ Sym.expr room ∷ st) ts ≡ run (next k) st (mark marks.Comma ∷ x.1)

abbrev ReadsOpened : ℕ → (List Sym → List Sym) → List Terminal → ReadQuery → Type 0
ReadsOpened room last ts (Ok x) = IsOpened room ts x
ReadsOpened room last ts (Err n) = Stuck (λ st. Sym.mark marks.Open ∷ Sym.expr room ∷ last st) ts n

opened_reads : (room : ℕ) → Exprs room → (last : List Sym → List Sym) → ((ts : List Terminal) → ReadsComma last ts (mark_at marks.Comma ts)) → (ts : List Terminal) → ReadsOpened room last ts (opened_by (expr_at room) ts)
unfolding opened_by
opened_reads room exprs last commas ts =
    let G : ReadQuery → Type 0 = ReadsOpened room last ts in
    bind_reads (ReadsMark marks.Open ts) G (λ o. expr_at room o >>= λ e. mark_at marks.Comma e.1 >>= λ a. Ok (e.0, a)) (mark_at marks.Open ts) (mark_reads marks.Open ts)
    (λ o e1.
    let p : (k : ℕ) (st : List Sym) → run k (Sym.mark marks.Open ∷ Sym.expr room ∷ st) ts ≡ run k (Sym.expr room ∷ st) o = λ k st. ap (λ (t : List Terminal). run k (Sym.mark marks.Open ∷ Sym.expr room ∷ st) t) (sym e1) in
    bind_reads (ReadsExpr room o) G (λ e. mark_at marks.Comma e.1 >>= λ a. Ok (e.0, a)) (expr_at room o) (exprs o)
    (λ e h. bind_reads (ReadsComma last e.1) G (λ a. Ok (e.0, a)) (mark_at marks.Comma e.1) (commas e.1)
    (λ a e2. record {
      tree = h.tree;
      fits = h.fits;
      text = ap (λ (t : List Terminal). mark marks.Open ∷ t) (ap (λ (t : List Terminal). expr_text h.tree ++ t) e2 ∙ h.text) ∙ e1;
      means = h.means;
      next = h.next;
      goes = λ k st. p k st ∙ h.goes k st ∙ ap (λ (t : List Terminal). run (h.next k) st t) (sym e2);
    })
    (λ n i k st. p k (last st) ∙ h.goes k (last st) ∙ i (h.next k) st))
    (λ n i k st. p k (last st) ∙ i k (last st)))
    (λ n i k st. i k (Sym.expr room ∷ last st))

-- ---- select and project

select_reads : (room : ℕ) → Exprs room → (ts : List Terminal) → ReadsExpr (suc room) (word words.Select ∷ ts) (select_by (expr_at room) room ts)
unfolding select_by
select_reads room exprs ts =
    let G : ReadQuery → Type 0 = ReadsExpr (suc room) (word words.Select ∷ ts) in
    bind_reads (ReadsOpened room (λ st. Sym.first_unit room ∷ st) ts) G (λ e. pred_by (unit_at room) 31 e.1 >>= λ p. mark_at marks.Close p.2 >>= λ c. Ok (select e.0 p.0, c)) (opened_by (expr_at room) ts) (opened_reads room exprs (λ st. Sym.first_unit room ∷ st) (first_reads room) ts)
    (λ e h.
    let p1 : (k : ℕ) (st : List Sym) → run k (Sym.expr (suc room) ∷ st) (word words.Select ∷ ts) ≡ run 31 (Sym.unit room ∷ Sym.tail room ∷ st) e.1 = λ k st. h.goes k (Sym.first_unit room ∷ st) in
    bind_reads (ReadsPred room 31 e.1) G (λ p. mark_at marks.Close p.2 >>= λ c. Ok (select e.0 p.0, c)) (pred_by (unit_at room) 31 e.1) (pred_reads room (unit_at room) (unit_reads room) 31 e.1 (omega arith))
    (λ p g. bind_reads (ReadsMark marks.Close p.2) G (λ c. Ok (select e.0 p.0, c)) (mark_at marks.Close p.2) (mark_reads marks.Close p.2)
    (λ c e3. record {
      tree = ExprTree.of_select h.tree g.tree;
      fits = (h.fits, g.fits, omega (arith, g.size));
      text = flat_select h.tree g.tree c ∙ ap (λ (t : List Terminal). word words.Select ∷ mark marks.Open ∷ (expr_text h.tree ++ mark marks.Comma ∷ t)) (ap (λ (t : List Terminal). ors_text g.tree ++ t) e3 ∙ g.text) ∙ ap (λ (t : List Terminal). word words.Select ∷ t) h.text;
      means = ap (λ q. select q (ors_formula g.tree)) h.means ∙ ap (λ f. select e.0 f) g.means;
      next = λ k. p.1;
      goes = λ k st. p1 k st ∙ pred_goes room 31 e.1 p st g ∙ ap (λ (t : List Terminal). run p.1 (Sym.mark marks.Close ∷ st) t) (sym e3);
    })
    (λ n i k st. p1 k st ∙ pred_goes room 31 e.1 p st g ∙ i p.1 st))
    (λ n i k st. p1 k st ∙ i st))
    (λ n i k st. i k st)

project_reads : (room : ℕ) → Exprs room → (ts : List Terminal) → ReadsExpr (suc room) (word words.Project ∷ ts) (project_by (expr_at room) ts)
unfolding project_by
project_reads room exprs ts =
    let G : ReadQuery → Type 0 = ReadsExpr (suc room) (word words.Project ∷ ts) in
    let behind : List Sym → List Sym = λ st. Sym.a_name ∷ Sym.item_end ∷ st in
    bind_reads (ReadsOpened room (λ st. Sym.mark marks.Comma ∷ behind st) ts) G (λ e. item_at e.1 >>= λ i. items_at i.0 i.1 >>= λ is. mark_at marks.Close is.1 >>= λ c. Ok (project e.0 is.0, c)) (opened_by (expr_at room) ts) (opened_reads room exprs (λ st. Sym.mark marks.Comma ∷ behind st) (comma_reads behind) ts)
    (λ e h.
    let p1 : (k : ℕ) (st : List Sym) → run k (Sym.expr (suc room) ∷ st) (word words.Project ∷ ts) ≡ run (h.next k) (behind st) e.1 = λ k st. h.goes k (Sym.mark marks.Comma ∷ behind st) in
    bind_reads (ReadsItem e.1) G (λ i. items_at i.0 i.1 >>= λ is. mark_at marks.Close is.1 >>= λ c. Ok (project e.0 is.0, c)) (item_at e.1) (item_reads e.1)
    (λ i g. bind_reads (ReadsMore item_kind Sym.more_items (Sym.mark marks.Close) i.0 i.1) G (λ is. mark_at marks.Close is.1 >>= λ c. Ok (project e.0 is.0, c)) (items_at i.0 i.1) (items_reads i.0 i.1)
    (λ is m. bind_reads (ReadsMark marks.Close is.1) G (λ c. Ok (project e.0 is.0, c)) (mark_at marks.Close is.1) (mark_reads marks.Close is.1)
    (λ c e3. record {
      tree = ExprTree.of_project h.tree g.tree m.trees;
      fits = h.fits;
      text = flat_project h.tree g.tree m.trees c ∙ ap (λ (t : List Terminal). word words.Project ∷ mark marks.Open ∷ (expr_text h.tree ++ mark marks.Comma ∷ t)) (ap (λ (t : List Terminal). item_text g.tree ++ t) (ap (λ (t : List Terminal). more_items_text m.trees ++ t) e3 ∙ m.texts) ∙ g.texts) ∙ ap (λ (t : List Terminal). word words.Project ∷ t) h.text;
      means = ap (λ q. project q (item_pair g.tree ∷ map item_pair m.trees)) h.means ∙ ap (λ y. project e.0 (y ∷ map item_pair m.trees)) g.means ∙ ap (λ ys. project e.0 ys) m.means;
      next = λ k. m.next (h.next k);
      goes = λ k st. p1 k st ∙ g.goes (h.next k) st ∙ m.goes (h.next k) st ∙ ap (λ (t : List Terminal). run (m.next (h.next k)) (Sym.mark marks.Close ∷ st) t) (sym e3);
    })
    (λ n j k st. p1 k st ∙ g.goes (h.next k) st ∙ m.goes (h.next k) st ∙ j (m.next (h.next k)) st))
    (λ n j k st. p1 k st ∙ g.goes (h.next k) st ∙ j (h.next k) st))
    (λ n j k st. p1 k st ∙ j (h.next k) st))
    (λ n j k st. j k st)

-- ---- join and notin

record IsParts (room : ℕ) (ts : List Terminal) (x : Query × Query × List (Name × Name) × List Terminal) : Type 0 where
  left : ExprTree
  right : ExprTree
  fits : ExprFits room left × ExprFits room right
  text : mark marks.Open ∷ (expr_text left ++ mark marks.Comma ∷ (expr_text right ++ (more_pairs_text x.2 ++ mark marks.Close ∷ x.3))) ≡ ts
  left_means : expr_query left ≡ x.0
  right_means : expr_query right ≡ x.1
  next : ℕ → ℕ
  goes : (k : ℕ) (st : List Sym) → run k (Sym.mark marks.Open ∷ Sym.expr room ∷ Sym.mark marks.Comma ∷ Sym.expr room ∷ Sym.more_pairs ∷ st) ts ≡ run (next k) st x.3

abbrev ReadsParts : ℕ → List Terminal → Result (Query × Query × List (Name × Name) × List Terminal) ℕ → Type 0
ReadsParts room ts (Ok x) = IsParts room ts x
ReadsParts room ts (Err n) = Stuck (λ st. Sym.mark marks.Open ∷ Sym.expr room ∷ Sym.mark marks.Comma ∷ Sym.expr room ∷ Sym.more_pairs ∷ st) ts n

parts_reads : (room : ℕ) → Exprs room → (ts : List Terminal) → ReadsParts room ts (parts_by (expr_at room) ts)
unfolding parts_by
parts_reads room exprs ts =
    let G : Result (Query × Query × List (Name × Name) × List Terminal) ℕ → Type 0 = ReadsParts room ts in
    let behind : List Sym → List Sym = λ st. Sym.expr room ∷ Sym.more_pairs ∷ st in
    bind_reads (ReadsOpened room (λ st. Sym.mark marks.Comma ∷ behind st) ts) G (λ a. expr_at room a.1 >>= λ b. pairs_at b.1 >>= λ ps. mark_at marks.Close ps.1 >>= λ c. Ok (a.0, b.0, ps.0, c)) (opened_by (expr_at room) ts) (opened_reads room exprs (λ st. Sym.mark marks.Comma ∷ behind st) (comma_reads behind) ts)
    (λ a h.
    let p1 : (k : ℕ) (st : List Sym) → run k (Sym.mark marks.Open ∷ Sym.expr room ∷ Sym.mark marks.Comma ∷ behind st) ts ≡ run (h.next k) (behind st) a.1 = λ k st. h.goes k (Sym.mark marks.Comma ∷ behind st) in
    bind_reads (ReadsExpr room a.1) G (λ b. pairs_at b.1 >>= λ ps. mark_at marks.Close ps.1 >>= λ c. Ok (a.0, b.0, ps.0, c)) (expr_at room a.1) (exprs a.1)
    (λ b g. bind_reads (ReadsPairs b.1) G (λ ps. mark_at marks.Close ps.1 >>= λ c. Ok (a.0, b.0, ps.0, c)) (pairs_at b.1) (pairs_reads b.1)
    (λ ps m. bind_reads (ReadsMark marks.Close ps.1) G (λ c. Ok (a.0, b.0, ps.0, c)) (mark_at marks.Close ps.1) (mark_reads marks.Close ps.1)
    (λ c e3. record {
      left = h.tree;
      right = g.tree;
      fits = (h.fits, g.fits);
      text = ap (λ (t : List Terminal). mark marks.Open ∷ (expr_text h.tree ++ mark marks.Comma ∷ t)) (ap (λ (t : List Terminal). expr_text g.tree ++ t) (ap (λ (t : List Terminal). more_pairs_text ps.0 ++ t) e3 ∙ m.texts) ∙ g.text) ∙ h.text;
      left_means = h.means;
      right_means = g.means;
      next = λ k. m.next (g.next (h.next k));
      goes = λ k st. p1 k st ∙ g.goes (h.next k) (Sym.more_pairs ∷ st) ∙ m.goes (g.next (h.next k)) st ∙ ap (λ (t : List Terminal). run (m.next (g.next (h.next k))) (Sym.mark marks.Close ∷ st) t) (sym e3);
    })
    (λ n j k st. p1 k st ∙ g.goes (h.next k) (Sym.more_pairs ∷ st) ∙ m.goes (g.next (h.next k)) st ∙ j (m.next (g.next (h.next k))) st))
    (λ n j k st. p1 k st ∙ g.goes (h.next k) (Sym.more_pairs ∷ st) ∙ j (g.next (h.next k)) st))
    (λ n j k st. p1 k st ∙ j (h.next k) (Sym.more_pairs ∷ st)))
    (λ n j k st. j k st)

join_reads : (room : ℕ) (ts : List Terminal) (r : Result (Query × Query × List (Name × Name) × List Terminal) ℕ) → ReadsParts room ts r → ReadsExpr (suc room) (word words.Join ∷ ts) (r >>= λ p. Ok (join p.0 p.1 p.2, p.3))
join_reads room ts (Ok x) h = record {
  tree = ExprTree.of_join h.left h.right x.2;
  fits = h.fits;
  text = flat_join h.left h.right x.2 x.3 ∙ ap (λ (t : List Terminal). word words.Join ∷ t) h.text;
  means = ap (λ q. join q (expr_query h.right) x.2) h.left_means ∙ ap (λ q. join x.0 q x.2) h.right_means;
  next = h.next;
  goes = h.goes;
}
join_reads room ts (Err n) h = h

notin_reads : (room : ℕ) (ts : List Terminal) (r : Result (Query × Query × List (Name × Name) × List Terminal) ℕ) → ReadsParts room ts r → ReadsExpr (suc room) (word words.NotIn ∷ ts) (r >>= λ p. Ok (notin p.0 p.1 p.2, p.3))
notin_reads room ts (Ok x) h = record {
  tree = ExprTree.of_notin h.left h.right x.2;
  fits = h.fits;
  text = flat_notin h.left h.right x.2 x.3 ∙ ap (λ (t : List Terminal). word words.NotIn ∷ t) h.text;
  means = ap (λ q. notin q (expr_query h.right) x.2) h.left_means ∙ ap (λ q. notin x.0 q x.2) h.right_means;
  next = h.next;
  goes = h.goes;
}
notin_reads room ts (Err n) h = h

-- ---- group and atleast

-- a part, its keys and the comma behind them
abbrev keyed_syms : ℕ → List Sym → List Sym
keyed_syms room st = Sym.mark marks.Open ∷ Sym.expr room ∷ Sym.mark marks.Comma ∷ Sym.mark marks.OpenKeys ∷ Sym.first_key ∷ Sym.mark marks.Comma ∷ st

record IsKeyed (room : ℕ) (ts : List Terminal) (x : Query × List Name × List Terminal) : Type 0 where
  tree : ExprTree
  fits : ExprFits room tree
  text : mark marks.Open ∷ (expr_text tree ++ mark marks.Comma ∷ (keys_text x.1 ++ mark marks.Comma ∷ x.2)) ≡ ts
  means : expr_query tree ≡ x.0
  next : ℕ → ℕ
  goes : (k : ℕ) (st : List Sym) → run k (keyed_syms room st) ts ≡ run (next k) st x.2

abbrev ReadsKeyed : ℕ → List Terminal → Result (Query × List Name × List Terminal) ℕ → Type 0
ReadsKeyed room ts (Ok x) = IsKeyed room ts x
ReadsKeyed room ts (Err n) = Stuck (keyed_syms room) ts n

keyed_reads : (room : ℕ) → Exprs room → (ts : List Terminal) → ReadsKeyed room ts (keyed_by (expr_at room) ts)
unfolding keyed_by
keyed_reads room exprs ts =
    let G : Result (Query × List Name × List Terminal) ℕ → Type 0 = ReadsKeyed room ts in
    let behind : List Sym → List Sym = λ st. Sym.mark marks.OpenKeys ∷ Sym.first_key ∷ Sym.mark marks.Comma ∷ st in
    bind_reads (ReadsOpened room (λ st. Sym.mark marks.Comma ∷ behind st) ts) G (λ e. keys_at e.1 >>= λ ks. mark_at marks.Comma ks.1 >>= λ c. Ok (e.0, ks.0, c)) (opened_by (expr_at room) ts) (opened_reads room exprs (λ st. Sym.mark marks.Comma ∷ behind st) (comma_reads behind) ts)
    (λ e h.
    let p1 : (k : ℕ) (st : List Sym) → run k (keyed_syms room st) ts ≡ run (h.next k) (behind st) e.1 = λ k st. h.goes k (Sym.mark marks.Comma ∷ behind st) in
    bind_reads (ReadsKeys e.1) G (λ ks. mark_at marks.Comma ks.1 >>= λ c. Ok (e.0, ks.0, c)) (keys_at e.1) (keys_reads e.1)
    (λ ks g. bind_reads (ReadsMark marks.Comma ks.1) G (λ c. Ok (e.0, ks.0, c)) (mark_at marks.Comma ks.1) (mark_reads marks.Comma ks.1)
    (λ c e3. record {
      tree = h.tree;
      fits = h.fits;
      text = ap (λ (t : List Terminal). mark marks.Open ∷ (expr_text h.tree ++ mark marks.Comma ∷ t)) (ap (λ (t : List Terminal). keys_text ks.0 ++ t) e3 ∙ g.text) ∙ h.text;
      means = h.means;
      next = λ k. g.next (h.next k);
      goes = λ k st. p1 k st ∙ g.goes (h.next k) (Sym.mark marks.Comma ∷ st) ∙ ap (λ (t : List Terminal). run (g.next (h.next k)) (Sym.mark marks.Comma ∷ st) t) (sym e3);
    })
    (λ n j k st. p1 k st ∙ g.goes (h.next k) (Sym.mark marks.Comma ∷ st) ∙ j (g.next (h.next k)) st))
    (λ n j k st. p1 k st ∙ j (h.next k) (Sym.mark marks.Comma ∷ st)))
    (λ n j k st. j k st)

group_reads : (room : ℕ) → Exprs room → (ts : List Terminal) → ReadsExpr (suc room) (word words.Group ∷ ts) (group_by (expr_at room) ts)
unfolding group_by
group_reads room exprs ts =
    let G : ReadQuery → Type 0 = ReadsExpr (suc room) (word words.Group ∷ ts) in
    let named : List Sym → List Sym = λ st. Sym.the_as ∷ Sym.a_name ∷ Sym.mark marks.Close ∷ st in
    bind_reads (ReadsKeyed room ts) G (λ e. agg_at e.2 >>= λ a. as_at a.1 >>= λ s. name_at s >>= λ n. mark_at marks.Close n.1 >>= λ c. Ok (group e.0 e.1 a.0 n.0, c)) (keyed_by (expr_at room) ts) (keyed_reads room exprs ts)
    (λ e h. bind_reads (ReadsAgg e.2) G (λ a. as_at a.1 >>= λ s. name_at s >>= λ n. mark_at marks.Close n.1 >>= λ c. Ok (group e.0 e.1 a.0 n.0, c)) (agg_at e.2) (agg_reads e.2)
    (λ a e2.
    let p1 : (k : ℕ) (st : List Sym) → run k (Sym.expr (suc room) ∷ st) (word words.Group ∷ ts) ≡ run (h.next k) (named st) a.1 = λ k st. h.goes k (Sym.an_agg ∷ named st) ∙ ap (λ (t : List Terminal). run (h.next k) (Sym.an_agg ∷ named st) t) (sym e2) ∙ agg_goes a.0 (h.next k) (named st) a.1 in
    bind_reads (ReadsAs a.1) G (λ s. name_at s >>= λ n. mark_at marks.Close n.1 >>= λ c. Ok (group e.0 e.1 a.0 n.0, c)) (as_at a.1) (as_reads a.1)
    (λ s e3.
    let p2 : (k : ℕ) (st : List Sym) → run k (Sym.expr (suc room) ∷ st) (word words.Group ∷ ts) ≡ run (h.next k) (Sym.a_name ∷ Sym.mark marks.Close ∷ st) s = λ k st. p1 k st ∙ ap (λ (t : List Terminal). run (h.next k) (named st) t) (sym e3) in
    bind_reads (ReadsName s) G (λ n. mark_at marks.Close n.1 >>= λ c. Ok (group e.0 e.1 a.0 n.0, c)) (name_at s) (name_reads s)
    (λ n e4.
    let p3 : (k : ℕ) (st : List Sym) → run k (Sym.expr (suc room) ∷ st) (word words.Group ∷ ts) ≡ run (h.next k) (Sym.mark marks.Close ∷ st) n.1 = λ k st. p2 k st ∙ ap (λ (t : List Terminal). run (h.next k) (Sym.a_name ∷ Sym.mark marks.Close ∷ st) t) (sym e4) in
    bind_reads (ReadsMark marks.Close n.1) G (λ c. Ok (group e.0 e.1 a.0 n.0, c)) (mark_at marks.Close n.1) (mark_reads marks.Close n.1)
    (λ c e5. record {
      tree = ExprTree.of_group h.tree e.1 a.0 n.0;
      fits = h.fits;
      text = flat_group h.tree e.1 a.0 n.0 c ∙ ap (λ (t : List Terminal). word words.Group ∷ mark marks.Open ∷ (expr_text h.tree ++ mark marks.Comma ∷ (keys_text e.1 ++ mark marks.Comma ∷ t))) (ap (λ (t : List Terminal). agg_text a.0 ++ t) (ap (λ (t : List Terminal). word words.As ∷ t) (ap (λ (t : List Terminal). terminals.Name n.0 ∷ t) e5 ∙ e4) ∙ e3) ∙ e2) ∙ ap (λ (t : List Terminal). word words.Group ∷ t) h.text;
      means = ap (λ q. group q e.1 a.0 n.0) h.means;
      next = h.next;
      goes = λ k st. p3 k st ∙ ap (λ (t : List Terminal). run (h.next k) (Sym.mark marks.Close ∷ st) t) (sym e5);
    })
    (λ m j k st. p3 k st ∙ j (h.next k) st))
    (λ m j k st. p2 k st ∙ j (h.next k) (Sym.mark marks.Close ∷ st)))
    (λ m j k st. p1 k st ∙ j (h.next k) (Sym.a_name ∷ Sym.mark marks.Close ∷ st)))
    (λ m j k st. h.goes k (Sym.an_agg ∷ named st) ∙ j (h.next k) (named st)))
    (λ m j k st. j k (Sym.an_agg ∷ named st))

at_least_reads : (room : ℕ) → Exprs room → (ts : List Terminal) → ReadsExpr (suc room) (word words.AtLeast ∷ ts) (at_least_by (expr_at room) ts)
unfolding at_least_by
at_least_reads room exprs ts =
    let G : ReadQuery → Type 0 = ReadsExpr (suc room) (word words.AtLeast ∷ ts) in
    bind_reads (ReadsKeyed room ts) G (λ e. bound_at e.2 >>= λ b. mark_at marks.Close b.1 >>= λ c. Ok (at_least e.0 e.1 b.0, c)) (keyed_by (expr_at room) ts) (keyed_reads room exprs ts)
    (λ e h. bind_reads (ReadsBound e.2) G (λ b. mark_at marks.Close b.1 >>= λ c. Ok (at_least e.0 e.1 b.0, c)) (bound_at e.2) (bound_reads e.2)
    (λ b g. bind_reads (ReadsMark marks.Close b.1) G (λ c. Ok (at_least e.0 e.1 b.0, c)) (mark_at marks.Close b.1) (mark_reads marks.Close b.1)
    (λ c e3. record {
      tree = ExprTree.of_at_least h.tree e.1 b.0;
      fits = (h.fits, g.1);
      text = flat_at_least h.tree e.1 b.0 c ∙ ap (λ (t : List Terminal). word words.AtLeast ∷ mark marks.Open ∷ (expr_text h.tree ++ mark marks.Comma ∷ (keys_text e.1 ++ mark marks.Comma ∷ t))) (ap (λ (t : List Terminal). terminals.Integer b.0 ∷ t) e3 ∙ g.0) ∙ ap (λ (t : List Terminal). word words.AtLeast ∷ t) h.text;
      means = ap (λ q. at_least q e.1 b.0) h.means;
      next = h.next;
      goes = λ k st. h.goes k (Sym.a_bound ∷ Sym.mark marks.Close ∷ st) ∙ bound_goes e.2 b g (h.next k) (Sym.mark marks.Close ∷ st) ∙ ap (λ (t : List Terminal). run (h.next k) (Sym.mark marks.Close ∷ st) t) (sym e3);
    })
    (λ n j k st. h.goes k (Sym.a_bound ∷ Sym.mark marks.Close ∷ st) ∙ bound_goes e.2 b g (h.next k) (Sym.mark marks.Close ∷ st) ∙ j (h.next k) st))
    (λ n j k st. h.goes k (Sym.a_bound ∷ Sym.mark marks.Close ∷ st) ∙ j (h.next k) (Sym.mark marks.Close ∷ st)))
    (λ n j k st. j k (Sym.a_bound ∷ Sym.mark marks.Close ∷ st))

pub expr_reads : (room : ℕ) → Exprs room
unfolding expr_at
expr_reads zero [] = λ k st. refl
expr_reads zero (terminals.Name n ∷ rest) = record { tree = ExprTree.of_base n; fits = tt; text = refl; means = refl; next = λ k. k; goes = λ k st. refl }
expr_reads zero (terminals.Word words.Select ∷ rest) = λ k st. refl
expr_reads zero (terminals.Word words.Project ∷ rest) = λ k st. refl
expr_reads zero (terminals.Word words.Join ∷ rest) = λ k st. refl
expr_reads zero (terminals.Word words.NotIn ∷ rest) = λ k st. refl
expr_reads zero (terminals.Word words.Group ∷ rest) = λ k st. refl
expr_reads zero (terminals.Word words.AtLeast ∷ rest) = λ k st. refl
expr_reads zero (t ∷ rest) = λ k st. refl
expr_reads (suc room) [] = λ k st. refl
expr_reads (suc room) (terminals.Name n ∷ rest) = record { tree = ExprTree.of_base n; fits = tt; text = refl; means = refl; next = λ k. k; goes = λ k st. refl }
expr_reads (suc room) (terminals.Word words.Select ∷ rest) = select_reads room (expr_reads room) rest
expr_reads (suc room) (terminals.Word words.Project ∷ rest) = project_reads room (expr_reads room) rest
expr_reads (suc room) (terminals.Word words.Join ∷ rest) = join_reads room rest (parts_by (expr_at room) rest) (parts_reads room (expr_reads room) rest)
expr_reads (suc room) (terminals.Word words.NotIn ∷ rest) = notin_reads room rest (parts_by (expr_at room) rest) (parts_reads room (expr_reads room) rest)
expr_reads (suc room) (terminals.Word words.Group ∷ rest) = group_reads room (expr_reads room) rest
expr_reads (suc room) (terminals.Word words.AtLeast ∷ rest) = at_least_reads room (expr_reads room) rest
expr_reads (suc room) (t ∷ rest) = λ k st. refl
