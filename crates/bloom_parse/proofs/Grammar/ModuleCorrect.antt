-- What is read as a module is one, and a fault is where the machine stops.
use Rattle.std.proofs.Common.{◌≡◌, ℕ, ◌<◌, ◌≤◌, true, false, List, [], ◌∷◌, ◌++◌, map, length, flat_map, Result, Ok, Err, refl, sym, ap, ◌∙◌, arith}
use Rattle.blz_value.specs.declared.test.Op.TheVariants.{Le}
use Rattle.blz_value.proofs.Lists.{map_itself}
use Rattle.bloom_forms.specs.Query.{Name, Query}
use Rattle.bloom_parse.specs.declared.lexing.terminal.Terminal.{Terminal}
use Rattle.bloom_parse.specs.declared.lexing.terminal.Terminal.TheVariants as terminals
use Rattle.bloom_parse.specs.declared.lexing.terminal.Word.TheVariants as words
use Rattle.bloom_parse.specs.declared.lexing.terminal.Mark.TheVariants as marks
use Rattle.bloom_forms.specs.declared.module.Kind.{Kind}
use Rattle.bloom_forms.specs.declared.module.Kind.TheVariants.{Input, Output, Table, Scratch}
use Rattle.bloom_forms.specs.declared.module.Collection.{Collection}
use Rattle.bloom_forms.specs.declared.module.Rule.{Rule}
use Rattle.bloom_forms.specs.Form.{RuleForm, Form, rule_form, rule_forms}
use Rattle.bloom_parse.specs.Trees.{word, mark, more_names_text, expr_text, ExprFits, kind_word, CollectionTree, collection_text, collection_form, RuleTree, rule_text, tree_rule, ModuleTree}
use Rattle.bloom_parse.specs.Places.{IsModuleText}
use Rattle.bloom_parse.specs.Code.ReadingSingle.{◌>>=◌, mark_at, name_at, arrow_at, module_word_at, has_name}
use Rattle.bloom_parse.specs.Code.ReadingLists.{names_at}
use Rattle.bloom_parse.specs.Code.ReadingExprs.{expr_at}
use Rattle.bloom_parse.specs.Code.ReadingModules.{has_kind, collection_of, declared_at, collection_at, rule_at, collections_at, rules_at, end_at, form_from, module_at}
use Rattle.bloom_parse.proofs.Machine.Machine.{Sym, run, in_collection, in_rule}
use Rattle.bloom_parse.proofs.Printed.TreesLemmas.{flat_collection, flat_rule, flat_module}
use Rattle.bloom_parse.proofs.Grammar.SingleCorrect.{bind_reads, Stuck, ReadsMark, mark_reads, ReadsName, name_reads, ReadsArrow, arrow_reads, ReadsModuleWord, module_word_reads}
use Rattle.bloom_parse.proofs.Grammar.RepeatLemmas.{Repeated, ReadsOne, ReadsMany, Listed, many_reads, ReadsMore}
use Rattle.bloom_parse.proofs.Grammar.ListLemmas.{name_kind, names_reads}
use Rattle.bloom_parse.proofs.Grammar.ExprCorrect.{ReadsExpr, expr_reads}

pub length_more : {X : Type 0} (xs ys : List X) → length ys ≤ length (xs ++ ys)
length_more [] ys = omega arith
length_more (x ∷ xs) ys = omega (arith, length_more xs ys)

-- ---- collections

abbrev pub collection_kind : Repeated Collection CollectionTree
collection_kind = record { view = collection_form; text = collection_text; Fits = λ c. Unit {0}; all_text = flat_map collection_text }

record IsDeclared (kind : Kind) (ts : List Terminal) (x : Collection × List Terminal) : Type 0 where
  tree : CollectionTree
  texts : collection_text tree ++ x.1 ≡ word (kind_word kind) ∷ ts
  means : collection_form tree ≡ x.0
  next : ℕ → ℕ
  goes : (k : ℕ) (st : List Sym) → run k (in_collection st) ts ≡ run (next k) (Sym.collections ∷ st) x.1

abbrev ReadsDeclared : Kind → List Terminal → Result (Collection × List Terminal) ℕ → Type 0
ReadsDeclared kind ts (Ok x) = IsDeclared kind ts x
ReadsDeclared kind ts (Err n) = Stuck in_collection ts n

declared_reads : (kind : Kind) (ts : List Terminal) → ReadsDeclared kind ts (declared_at kind ts)
unfolding declared_at
declared_reads kind ts =
    let G : Result (Collection × List Terminal) ℕ → Type 0 = ReadsDeclared kind ts in
    let last : List Sym → List Sym = λ st. Sym.mark marks.Semicolon ∷ Sym.collections ∷ st in
    bind_reads (ReadsName ts) G (λ n. mark_at marks.Open n.1 >>= λ o. name_at o >>= λ f. names_at f.0 f.1 >>= λ ns. mark_at marks.Close ns.1 >>= λ c. mark_at marks.Semicolon c >>= λ s. Ok (collection_of kind n.0 ns.0, s)) (name_at ts) (name_reads ts)
    (λ n e1.
    let p1 : (k : ℕ) (st : List Sym) → run k (in_collection st) ts ≡ run k (Sym.mark marks.Open ∷ Sym.a_name ∷ Sym.more_names ∷ last st) n.1 = λ k st. ap (λ (t : List Terminal). run k (in_collection st) t) (sym e1) in
    bind_reads (ReadsMark marks.Open n.1) G (λ o. name_at o >>= λ f. names_at f.0 f.1 >>= λ ns. mark_at marks.Close ns.1 >>= λ c. mark_at marks.Semicolon c >>= λ s. Ok (collection_of kind n.0 ns.0, s)) (mark_at marks.Open n.1) (mark_reads marks.Open n.1)
    (λ o e2.
    let p2 : (k : ℕ) (st : List Sym) → run k (in_collection st) ts ≡ run k (Sym.a_name ∷ Sym.more_names ∷ last st) o = λ k st. p1 k st ∙ ap (λ (t : List Terminal). run k (Sym.mark marks.Open ∷ Sym.a_name ∷ Sym.more_names ∷ last st) t) (sym e2) in
    bind_reads (ReadsName o) G (λ f. names_at f.0 f.1 >>= λ ns. mark_at marks.Close ns.1 >>= λ c. mark_at marks.Semicolon c >>= λ s. Ok (collection_of kind n.0 ns.0, s)) (name_at o) (name_reads o)
    (λ f e3.
    let p3 : (k : ℕ) (st : List Sym) → run k (in_collection st) ts ≡ run k (Sym.more_names ∷ last st) f.1 = λ k st. p2 k st ∙ ap (λ (t : List Terminal). run k (Sym.a_name ∷ Sym.more_names ∷ last st) t) (sym e3) in
    bind_reads (ReadsMore name_kind Sym.more_names (Sym.mark marks.Close) f.0 f.1) G (λ ns. mark_at marks.Close ns.1 >>= λ c. mark_at marks.Semicolon c >>= λ s. Ok (collection_of kind n.0 ns.0, s)) (names_at f.0 f.1) (names_reads f.0 f.1)
    (λ ns m. bind_reads (ReadsMark marks.Close ns.1) G (λ c. mark_at marks.Semicolon c >>= λ s. Ok (collection_of kind n.0 ns.0, s)) (mark_at marks.Close ns.1) (mark_reads marks.Close ns.1)
    (λ c e4.
    let p4 : (k : ℕ) (st : List Sym) → run k (in_collection st) ts ≡ run (m.next k) (last st) c = λ k st. p3 k st ∙ m.goes k (last st) ∙ ap (λ (t : List Terminal). run (m.next k) (Sym.mark marks.Close ∷ last st) t) (sym e4) in
    bind_reads (ReadsMark marks.Semicolon c) G (λ s. Ok (collection_of kind n.0 ns.0, s)) (mark_at marks.Semicolon c) (mark_reads marks.Semicolon c)
    (λ s e5.
    let tree : CollectionTree = record { kind = kind; name = n.0; first = f.0; more = m.trees } in
    record {
      tree = tree;
      texts = flat_collection tree s ∙ ap (λ (t : List Terminal). word (kind_word kind) ∷ t) (ap (λ (t : List Terminal). terminals.Name n.0 ∷ t) (ap (λ (t : List Terminal). mark marks.Open ∷ t) (ap (λ (t : List Terminal). terminals.Name f.0 ∷ t) (ap (λ (t : List Terminal). more_names_text m.trees ++ t) (ap (λ (t : List Terminal). mark marks.Close ∷ t) e5 ∙ e4) ∙ m.texts) ∙ e3) ∙ e2) ∙ e1);
      means = ap (λ (ns : List Name). collection_of kind n.0 (f.0 ∷ ns)) (sym (map_itself m.trees)) ∙ ap (λ (ns : List Name). collection_of kind n.0 ns) m.means;
      next = m.next;
      goes = λ k st. p4 k st ∙ ap (λ (t : List Terminal). run (m.next k) (last st) t) (sym e5);
    })
    (λ i j k st. p4 k st ∙ j (m.next k) (Sym.collections ∷ st)))
    (λ i j k st. p3 k st ∙ m.goes k (last st) ∙ j (m.next k) (last st)))
    (λ i j k st. p3 k st ∙ j k (last st)))
    (λ i j k st. p2 k st ∙ j k (Sym.more_names ∷ last st)))
    (λ i j k st. p1 k st ∙ j k (Sym.a_name ∷ Sym.more_names ∷ last st)))
    (λ i j k st. j k (Sym.mark marks.Open ∷ Sym.a_name ∷ Sym.more_names ∷ last st))

pub collection_longer : (c : CollectionTree) (more : List Terminal) → length more < length (collection_text c ++ more)
collection_longer c more = omega (arith, length_more (more_names_text c.more ++ mark marks.Close ∷ mark marks.Semicolon ∷ []) more)

kind_goes : (kind : Kind) (k : ℕ) (st : List Sym) (rest : List Terminal) → run k (Sym.collections ∷ st) (word (kind_word kind) ∷ rest) ≡ run k (in_collection st) rest
kind_goes Input k st rest = refl
kind_goes Output k st rest = refl
kind_goes Table k st rest = refl
kind_goes Scratch k st rest = refl

collection_cases : (kind : Kind) (rest : List Terminal) (r : Result (Collection × List Terminal) ℕ) → ReadsDeclared kind rest r → ReadsOne collection_kind Sym.collections (word (kind_word kind) ∷ rest) r
collection_cases kind rest (Ok x) h = record { tree = h.tree; fits = tt; means = h.means; texts = h.texts; next = h.next; goes = λ k st. kind_goes kind k st rest ∙ h.goes k st; shorter = omega (arith, collection_longer h.tree x.1, ap (λ (t : List Terminal). length t) h.texts) }
collection_cases kind rest (Err n) h = λ k st. kind_goes kind k st rest ∙ h k st

collection_with : (kind : Kind) (rest : List Terminal) → ReadsOne collection_kind Sym.collections (word (kind_word kind) ∷ rest) (declared_at kind rest)
collection_with kind rest = collection_cases kind rest (declared_at kind rest) (declared_reads kind rest)

collection_reads : (ts : List Terminal) → has_kind ts ≡ true → ReadsOne collection_kind Sym.collections ts (collection_at ts)
unfolding collection_at
collection_reads [] e = absurd cc
collection_reads (terminals.Word words.Input ∷ rest) e = collection_with Input rest
collection_reads (terminals.Word words.Output ∷ rest) e = collection_with Output rest
collection_reads (terminals.Word words.Table ∷ rest) e = collection_with Table rest
collection_reads (terminals.Word words.Scratch ∷ rest) e = collection_with Scratch rest
collection_reads (t ∷ rest) e = absurd cc

collections_stop : (k : ℕ) (st : List Sym) (ts : List Terminal) → has_kind ts ≡ false → run k (Sym.collections ∷ st) ts ≡ run k (Sym.rules ∷ st) ts
collections_stop k st [] e = refl
collections_stop k st (terminals.Word words.Input ∷ rest) e = absurd cc
collections_stop k st (terminals.Word words.Output ∷ rest) e = absurd cc
collections_stop k st (terminals.Word words.Table ∷ rest) e = absurd cc
collections_stop k st (terminals.Word words.Scratch ∷ rest) e = absurd cc
collections_stop k st (t ∷ rest) e = refl

collections_listed : Listed collection_kind Sym.collections Sym.rules has_kind collection_at
collections_listed = record { nil = refl; cons = λ t ts. refl; stop = collections_stop; reads = collection_reads }

collections_reads : (ts : List Terminal) → ReadsMany collection_kind Sym.collections Sym.rules ts (collections_at ts)
collections_reads ts = many_reads collection_kind Sym.collections Sym.rules has_kind collection_at collections_listed (length ts) ts (omega arith) refl

-- ---- rules

abbrev pub rule_kind : Repeated RuleForm RuleTree
rule_kind = record { view = tree_rule; text = rule_text; Fits = λ r. ExprFits 32 r.body; all_text = flat_map rule_text }

pub rule_longer : (r : RuleTree) (more : List Terminal) → length more < length (rule_text r ++ more)
rule_longer r more = omega (arith, length_more (expr_text r.body ++ mark marks.Semicolon ∷ []) more)

rule_behind : (head : Name) (ts : List Terminal) → ReadsOne rule_kind Sym.rules (terminals.Name head ∷ ts) (rule_at (terminals.Name head ∷ ts))
unfolding rule_at
rule_behind head ts =
    let G : Result (RuleForm × List Terminal) ℕ → Type 0 = ReadsOne rule_kind Sym.rules (terminals.Name head ∷ ts) in
    let last : List Sym → List Sym = λ st. Sym.mark marks.Semicolon ∷ Sym.rules ∷ st in
    bind_reads (ReadsArrow ts) G (λ a. expr_at 32 a >>= λ b. mark_at marks.Semicolon b.1 >>= λ s. Ok ((head, b.0), s)) (arrow_at ts) (arrow_reads ts)
    (λ a e1.
    let p1 : (k : ℕ) (st : List Sym) → run k (Sym.rules ∷ st) (terminals.Name head ∷ ts) ≡ run k (Sym.expr 32 ∷ last st) a = λ k st. ap (λ (t : List Terminal). run k (in_rule st) t) (sym e1) in
    bind_reads (ReadsExpr 32 a) G (λ b. mark_at marks.Semicolon b.1 >>= λ s. Ok ((head, b.0), s)) (expr_at 32 a) (expr_reads 32 a)
    (λ b h. bind_reads (ReadsMark marks.Semicolon b.1) G (λ s. Ok ((head, b.0), s)) (mark_at marks.Semicolon b.1) (mark_reads marks.Semicolon b.1)
    (λ s e3.
    let tree : RuleTree = record { head = head; body = h.tree } in
    let all : rule_text tree ++ s ≡ terminals.Name head ∷ ts = flat_rule tree s ∙ ap (λ (t : List Terminal). terminals.Name head ∷ t) (ap (λ (t : List Terminal). terminals.Sign Le ∷ t) (ap (λ (t : List Terminal). expr_text h.tree ++ t) e3 ∙ h.text) ∙ e1) in
    record {
      tree = tree;
      fits = h.fits;
      means = ap (λ (q : Query). (head, q)) h.means;
      texts = all;
      next = h.next;
      goes = λ k st. p1 k st ∙ h.goes k (last st) ∙ ap (λ (t : List Terminal). run (h.next k) (last st) t) (sym e3);
      shorter = omega (arith, rule_longer tree s, ap (λ (t : List Terminal). length t) all);
    })
    (λ n j k st. p1 k st ∙ h.goes k (last st) ∙ j (h.next k) (Sym.rules ∷ st)))
    (λ n j k st. p1 k st ∙ j k (last st)))
    (λ n j k st. j k (Sym.expr 32 ∷ last st))

rule_reads : (ts : List Terminal) → has_name ts ≡ true → ReadsOne rule_kind Sym.rules ts (rule_at ts)
rule_reads [] e = absurd cc
rule_reads (terminals.Name n ∷ rest) e = rule_behind n rest
rule_reads (t ∷ rest) e = absurd cc

rules_stop : (k : ℕ) (st : List Sym) (ts : List Terminal) → has_name ts ≡ false → run k (Sym.rules ∷ st) ts ≡ run k (Sym.the_end ∷ st) ts
rules_stop k st [] e = refl
rules_stop k st (terminals.Name n ∷ rest) e = absurd cc
rules_stop k st (t ∷ rest) e = refl

rules_listed : Listed rule_kind Sym.rules Sym.the_end has_name rule_at
rules_listed = record { nil = refl; cons = λ t ts. refl; stop = rules_stop; reads = rule_reads }

rules_reads : (ts : List Terminal) → ReadsMany rule_kind Sym.rules Sym.the_end ts (rules_at ts)
rules_reads ts = many_reads rule_kind Sym.rules Sym.the_end has_name rule_at rules_listed (length ts) ts (omega arith) refl

-- ---- modules

abbrev pub whole : List Sym
whole = Sym.the_module ∷ Sym.a_name ∷ Sym.mark marks.Semicolon ∷ Sym.collections ∷ []

abbrev ReadsEnd : List Terminal → Result (List Terminal) ℕ → Type 0
ReadsEnd ts (Ok rest) = terminals.End ∷ [] ≡ ts
ReadsEnd ts (Err n) = (k : ℕ) → run k (Sym.the_end ∷ []) ts ≡ Err n

end_reads : (ts : List Terminal) → ReadsEnd ts (end_at ts)
end_reads [] = λ k. refl
end_reads (terminals.End ∷ []) = refl
end_reads (terminals.End ∷ t ∷ rest) = λ k. refl
end_reads (t ∷ rest) = λ k. refl

-- a module was read, and the machine takes its text
pub record IsRead (ts : List Terminal) (m : Form) : Type 0 where
  pub stands : IsModuleText ts m
  pub left : ℕ
  pub runs : run 0 whole ts ≡ Ok (left, [])

abbrev pub ReadsModule : List Terminal → Result Form ℕ → Type 0
ReadsModule ts (Ok m) = IsRead ts m
ReadsModule ts (Err n) = run 0 whole ts ≡ Err n

pub module_reads : (ts : List Terminal) → ReadsModule ts (module_at ts)
unfolding module_at
module_reads ts =
    let G : Result Form ℕ → Type 0 = ReadsModule ts in
    let last : List Sym = Sym.collections ∷ [] in
    bind_reads (ReadsModuleWord ts) G (λ w. name_at w >>= λ n. mark_at marks.Semicolon n.1 >>= λ b. collections_at b >>= λ cs. rules_at cs.1 >>= λ rs. end_at rs.1 >>= λ z. Ok (form_from n.0 cs.0 rs.0)) (module_word_at ts) (module_word_reads ts)
    (λ w e1.
    let p1 : run 0 whole ts ≡ run 0 (Sym.a_name ∷ Sym.mark marks.Semicolon ∷ last) w = ap (λ (t : List Terminal). run 0 whole t) (sym e1) in
    bind_reads (ReadsName w) G (λ n. mark_at marks.Semicolon n.1 >>= λ b. collections_at b >>= λ cs. rules_at cs.1 >>= λ rs. end_at rs.1 >>= λ z. Ok (form_from n.0 cs.0 rs.0)) (name_at w) (name_reads w)
    (λ n e2.
    let p2 : run 0 whole ts ≡ run 0 (Sym.mark marks.Semicolon ∷ last) n.1 = p1 ∙ ap (λ (t : List Terminal). run 0 (Sym.a_name ∷ Sym.mark marks.Semicolon ∷ last) t) (sym e2) in
    bind_reads (ReadsMark marks.Semicolon n.1) G (λ b. collections_at b >>= λ cs. rules_at cs.1 >>= λ rs. end_at rs.1 >>= λ z. Ok (form_from n.0 cs.0 rs.0)) (mark_at marks.Semicolon n.1) (mark_reads marks.Semicolon n.1)
    (λ b e3.
    let p3 : run 0 whole ts ≡ run 0 last b = p2 ∙ ap (λ (t : List Terminal). run 0 (Sym.mark marks.Semicolon ∷ last) t) (sym e3) in
    bind_reads (ReadsMany collection_kind Sym.collections Sym.rules b) G (λ cs. rules_at cs.1 >>= λ rs. end_at rs.1 >>= λ z. Ok (form_from n.0 cs.0 rs.0)) (collections_at b) (collections_reads b)
    (λ cs h.
    let p4 : run 0 whole ts ≡ run (h.next 0) (Sym.rules ∷ []) cs.1 = p3 ∙ h.goes 0 [] in
    bind_reads (ReadsMany rule_kind Sym.rules Sym.the_end cs.1) G (λ rs. end_at rs.1 >>= λ z. Ok (form_from n.0 cs.0 rs.0)) (rules_at cs.1) (rules_reads cs.1)
    (λ rs g.
    let p5 : run 0 whole ts ≡ run (g.next (h.next 0)) (Sym.the_end ∷ []) rs.1 = p4 ∙ g.goes (h.next 0) [] in
    bind_reads (ReadsEnd rs.1) G (λ z. Ok (form_from n.0 cs.0 rs.0)) (end_at rs.1) (end_reads rs.1)
    (λ z e6.
    let tree : ModuleTree = record { name = n.0; collections = h.trees; rules = g.trees } in
    record {
      stands = record {
        tree = tree;
        fits = g.fits;
        text = flat_module tree ∙ ap (λ (t : List Terminal). word words.Module ∷ t) (ap (λ (t : List Terminal). terminals.Name n.0 ∷ t) (ap (λ (t : List Terminal). mark marks.Semicolon ∷ t) (ap (λ (t : List Terminal). flat_map collection_text h.trees ++ t) (ap (λ (t : List Terminal). flat_map rule_text g.trees ++ t) e6 ∙ g.texts) ∙ h.texts) ∙ e3) ∙ e2) ∙ e1;
        means = ap (λ (c : List Collection). form_from n.0 c (map tree_rule g.trees)) h.means ∙ ap (λ (r : List RuleForm). form_from n.0 cs.0 r) g.means;
      };
      left = g.next (h.next 0);
      runs = p5 ∙ ap (λ (t : List Terminal). run (g.next (h.next 0)) (Sym.the_end ∷ []) t) (sym e6);
    })
    (λ i j. p5 ∙ j (g.next (h.next 0))))
    (λ i j. p4 ∙ j (h.next 0) []))
    (λ i j. p3 ∙ j 0 []))
    (λ i j. p2 ∙ j 0 last))
    (λ i j. p1 ∙ j 0 (Sym.mark marks.Semicolon ∷ last)))
    (λ i j. j 0 (Sym.a_name ∷ Sym.mark marks.Semicolon ∷ last))

-- one more rule
pub one_more_rule : (rules : List Rule) (r : Rule) → rule_forms (rules ++ r ∷ []) ≡ rule_forms rules ++ rule_form r ∷ []
one_more_rule [] r = refl
one_more_rule (first ∷ rules) r = ap (λ (t : List RuleForm). rule_form first ∷ t) (one_more_rule rules r)
