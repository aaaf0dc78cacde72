-- What is read as a predicate is one, and a fault is where the machine stops.
use Rattle.std.proofs.Common.{◌≡◌, ℕ, zero, suc, ◌+◌, ◌-◌, ◌<◌, ◌≤◌, Bool, cond, List, [], ◌∷◌, ◌++◌, length, drop, Option, Some, None, Ok, Err, refl, sym, ap, subst, ◌∙◌, append_assoc, arith}
use Rattle.std.proofs.Math.Dec.{eqb-suc-zero}
use Rattle.std.proofs.lemmas.Bool.{ne_eqb}
use Rattle.bloom_parse.specs.declared.reading.predicates.Link.{Link}
use Rattle.bloom_parse.specs.declared.reading.predicates.Link.TheVariants as links
use Rattle.bloom_forms.specs.declared.expr.Term.{Term}
use Rattle.bloom_forms.specs.declared.expr.Term.TheVariants.{Column, Literal}
use Rattle.blz_value.specs.declared.value.Value.TheVariants.{Int, Text}
use Rattle.bloom_forms.specs.Query.{Formula}
use Rattle.bloom_forms.specs.Query.Formula.{compare, both, not_so}
use Rattle.bloom_parse.specs.declared.lexing.terminal.Terminal.{Terminal}
use Rattle.bloom_parse.specs.declared.lexing.terminal.Terminal.TheVariants as terminals
use Rattle.bloom_parse.specs.declared.lexing.terminal.Word.TheVariants as words
use Rattle.bloom_parse.specs.declared.lexing.terminal.Mark.TheVariants as marks
use Rattle.bloom_parse.specs.Trees.{UnitTree, AndsTree, OrsTree, word, mark, term_token, unit_text, ands_text, ors_text, unit_size, ors_size, UnitFits, OrsFit, unit_formula, ands_formula, ors_formula}
use Rattle.bloom_parse.specs.Code.ReadingSingle.{◌>>=◌, mark_at, operand_at, sign_at}
use Rattle.bloom_parse.specs.Code.ReadingPredicates.{Read, comparison_at, summed_of, spend, link_of, by_link, unit_by, chain_at, pred_by, unit_at}
use Rattle.bloom_parse.proofs.Machine.Machine.{Sym, run}
use Rattle.bloom_parse.proofs.Machine.MachineLemmas.{ors_go, unit_some, ors_some}
use Rattle.bloom_parse.proofs.Grammar.SingleCorrect.{bind_reads, ReadsMark, mark_reads, ReadsSign, sign_reads, ReadsOperand, operand_reads}

-- ---- one unit

pub record IsUnit (room left : ℕ) (ts : List Terminal) (x : Formula × ℕ × List Terminal) : Type 0 where
  pub tree : UnitTree
  pub fits : UnitFits room tree
  pub size : suc left ≡ unit_size tree + x.1
  pub text : unit_text tree ++ x.2 ≡ ts
  pub means : unit_formula tree ≡ x.0

abbrev pub ReadsUnit : ℕ → ℕ → List Terminal → Read → Type 0
ReadsUnit room left ts (Ok x) = IsUnit room left ts x
ReadsUnit room left ts (Err n) = (st : List Sym) → run left (Sym.unit room ∷ st) ts ≡ Err n

-- behind its first operand
abbrev Behind : Term → ℕ → ℕ → List Terminal → Read → Type 0
Behind l room left ts (Ok x) = IsUnit room left (term_token l ∷ ts) x
Behind l room left ts (Err n) = (st : List Sym) → run left (Sym.a_sign ∷ Sym.an_operand ∷ st) ts ≡ Err n

behind : (l : Term) (room left : ℕ) (ts : List Terminal) → Behind l room left ts (sign_at ts >>= λ o. operand_at o.1 >>= λ r. Ok (compare l o.0 r.0, left, r.1))
behind l room left ts =
    bind_reads (ReadsSign ts) (Behind l room left ts) (λ o. operand_at o.1 >>= λ r. Ok (compare l o.0 r.0, left, r.1)) (sign_at ts) (sign_reads ts)
    (λ o e. bind_reads (ReadsOperand o.1) (Behind l room left ts) (λ r. Ok (compare l o.0 r.0, left, r.1)) (operand_at o.1) (operand_reads o.1)
    (λ r f. record { tree = UnitTree.comparison l o.0 r.0; fits = tt; size = omega arith; text = ap (λ (t : List Terminal). term_token l ∷ t) (ap (λ (t : List Terminal). terminals.Sign o.0 ∷ t) f ∙ e); means = refl })
    (λ n h st. ap (λ (t : List Terminal). run left (Sym.a_sign ∷ Sym.an_operand ∷ st) t) (sym e) ∙ h left st))
    (λ n h st. h left (Sym.an_operand ∷ st))

first_goes : (l : Term) (room left : ℕ) (st : List Sym) (ts : List Terminal) → run left (Sym.unit room ∷ st) (term_token l ∷ ts) ≡ run left (Sym.a_sign ∷ Sym.an_operand ∷ st) ts
first_goes (Column n) room left st ts = refl
first_goes (Literal (Int i)) room left st ts = refl
first_goes (Literal (Text t)) room left st ts = refl

with_first : (l : Term) (room left : ℕ) (ts : List Terminal) (r : Read) → Behind l room left ts r → ReadsUnit room left (term_token l ∷ ts) r
with_first l room left ts (Ok x) h = h
with_first l room left ts (Err n) h = λ st. first_goes l room left st ts ∙ h st

comparison_reads : (l : Term) (room left : ℕ) (ts : List Terminal) → ReadsUnit room left (term_token l ∷ ts) (sign_at ts >>= λ o. operand_at o.1 >>= λ r. Ok (compare l o.0 r.0, left, r.1))
comparison_reads l room left ts = with_first l room left ts (sign_at ts >>= λ o. operand_at o.1 >>= λ r. Ok (compare l o.0 r.0, left, r.1)) (behind l room left ts)

-- ---- a chain of units

-- no and or or stands there
abbrev pub Stops : List Terminal → Type 0
Stops (terminals.Word words.And ∷ rest) = ⊥
Stops (terminals.Word words.Or ∷ rest) = ⊥
Stops ts = Unit {0}

pub pops : (k room : ℕ) (st : List Sym) (ts : List Terminal) → Stops ts → run k (Sym.tail room ∷ st) ts ≡ run k (Sym.mark marks.Close ∷ st) ts
pops k room st [] h = refl
pops k room st (terminals.Word words.And ∷ rest) h = absurd h
pops k room st (terminals.Word words.Or ∷ rest) h = absurd h
pops k room st (t ∷ rest) h = refl

by_link_reads : (G : Read → Type 0) (left : ℕ) (anded ored : ℕ → List Terminal → Read) (stop : List Terminal → Read) (ts : List Terminal)
    → ((rest : List Terminal) → word words.And ∷ rest ≡ ts → G (spend left anded (word words.And ∷ rest)))
    → ((rest : List Terminal) → word words.Or ∷ rest ≡ ts → G (spend left ored (word words.Or ∷ rest)))
    → (Stops ts → G (stop ts)) → G (by_link (link_of ts) left anded ored stop ts)
by_link_reads G left anded ored stop [] a o s = s tt
by_link_reads G left anded ored stop (terminals.Word words.And ∷ rest) a o s = a rest refl
by_link_reads G left anded ored stop (terminals.Word words.Or ∷ rest) a o s = o rest refl
by_link_reads G left anded ored stop (t ∷ rest) a o s = s tt

pub spend_more : (left : ℕ) (more : ℕ → List Terminal → Read) (t : Terminal) (rest : List Terminal) → spend (suc left) more (t ∷ rest) ≡ more left rest
spend_more left more t rest = ap (λ (b : Bool). cond {A = Read} b (Err (length (t ∷ rest))) (more (suc left - 1) rest)) (eqb-suc-zero left) ∙ ap (λ n. more n rest) (let e : suc left - 1 ≡ left = omega arith in e)

pub record IsPred (room left : ℕ) (ts : List Terminal) (x : Formula × ℕ × List Terminal) : Type 0 where
  pub tree : OrsTree
  pub fits : OrsFit room tree
  pub size : suc left ≡ ors_size tree + x.1
  pub text : ors_text tree ++ x.2 ≡ ts
  pub means : ors_formula tree ≡ x.0
  pub stops : Stops x.2

abbrev pub ReadsPred : ℕ → ℕ → List Terminal → Read → Type 0
ReadsPred room left ts (Ok x) = IsPred room left ts x
ReadsPred room left ts (Err n) = (st : List Sym) → run left (Sym.unit room ∷ Sym.tail room ∷ st) ts ≡ Err n

pub pred_goes : (room left : ℕ) (ts : List Terminal) (x : Formula × ℕ × List Terminal) (st : List Sym) → IsPred room left ts x → run left (Sym.unit room ∷ Sym.tail room ∷ st) ts ≡ run x.1 (Sym.mark marks.Close ∷ st) x.2
pred_goes room left ts x st p =
    ap (λ (t : List Terminal). run left (Sym.unit room ∷ Sym.tail room ∷ st) t) (sym p.text)
    ∙ ors_go p.tree room left x.1 st x.2 p.fits p.size
    ∙ pops x.1 room st x.2 p.stops

abbrev joined : Option OrsTree → AndsTree → OrsTree
joined None a = OrsTree.one_ands a
joined (Some o) a = OrsTree.or_then o a

abbrev formula_so_far : Option OrsTree → Option Formula
formula_so_far None = None
formula_so_far (Some o) = Some (ors_formula o)

-- what was read before a place in the chain
record SoFar (room left : ℕ) (ts : List Terminal) (now : ℕ) (sum : Option Formula) (product : Formula) (rest : List Terminal) : Type 0 where
  few : left ≤ 31
  before : Option OrsTree
  last : AndsTree
  fits : OrsFit room (joined before last)
  size : suc left ≡ ors_size (joined before last) + now
  text : ors_text (joined before last) ++ rest ≡ ts
  sum_means : formula_so_far before ≡ sum
  last_means : ands_formula last ≡ product

joined_means : (before : Option OrsTree) (last : AndsTree) → ors_formula (joined before last) ≡ summed_of (formula_so_far before) (ands_formula last)
joined_means None last = refl
joined_means (Some o) last = refl

means_so_far : (before : Option OrsTree) (last : AndsTree) (sum : Option Formula) (product : Formula) → formula_so_far before ≡ sum → ands_formula last ≡ product → ors_formula (joined before last) ≡ summed_of sum product
means_so_far before last sum product e f = joined_means before last ∙ ap (λ s. summed_of s (ands_formula last)) e ∙ ap (λ p. summed_of sum p) f

-- one more unit behind and
anded_fits : (room : ℕ) (before : Option OrsTree) (last : AndsTree) (u : UnitTree) → OrsFit room (joined before last) → UnitFits room u → OrsFit room (joined before (AndsTree.and_then last u))
anded_fits room None last u f g = (f, g)
anded_fits room (Some o) last u f g = (f.0, (f.1, g))

anded_size : (before : Option OrsTree) (last : AndsTree) (u : UnitTree) → ors_size (joined before (AndsTree.and_then last u)) ≡ ors_size (joined before last) + unit_size u
anded_size None last u = refl
anded_size (Some o) last u = omega arith

anded_text : (before : Option OrsTree) (last : AndsTree) (u : UnitTree) → ors_text (joined before (AndsTree.and_then last u)) ≡ ors_text (joined before last) ++ word words.And ∷ unit_text u
anded_text None last u = refl
anded_text (Some o) last u = sym (append_assoc (ors_text o) (word words.Or ∷ ands_text last) (word words.And ∷ unit_text u))

-- the machine at a place in the chain
so_far_goes : (room left : ℕ) (ts : List Terminal) (now : ℕ) (sum : Option Formula) (product : Formula) (rest : List Terminal) (st : List Sym) → SoFar room left ts now sum product rest → run left (Sym.unit room ∷ Sym.tail room ∷ st) ts ≡ run now (Sym.tail room ∷ st) rest
so_far_goes room left ts now sum product rest st p =
    ap (λ (t : List Terminal). run left (Sym.unit room ∷ Sym.tail room ∷ st) t) (sym p.text) ∙ ors_go (joined p.before p.last) room left now st rest p.fits p.size

so_far_ends : (room left : ℕ) (ts : List Terminal) (now : ℕ) (sum : Option Formula) (product : Formula) (rest : List Terminal) → SoFar room left ts now sum product rest → Stops rest → IsPred room left ts (summed_of sum product, now, rest)
so_far_ends room left ts now sum product rest p stops =
    record { tree = joined p.before p.last; fits = p.fits; size = p.size; text = p.text; means = means_so_far p.before p.last sum product p.sum_means p.last_means; stops = stops }

anded : (room left : ℕ) (ts : List Terminal) (now : ℕ) (sum : Option Formula) (product : Formula) (rest : List Terminal) (u : Formula × ℕ × List Terminal) → SoFar room left ts (suc now) sum product (word words.And ∷ rest) → IsUnit room now rest u → SoFar room left ts u.1 sum (both product u.0) u.2
anded room left ts now sum product rest u p q = record {
  few = p.few;
  before = p.before;
  last = AndsTree.and_then p.last q.tree;
  fits = anded_fits room p.before p.last q.tree p.fits q.fits;
  size = omega (arith, p.size, q.size, anded_size p.before p.last q.tree);
  text = ap (λ (t : List Terminal). t ++ u.2) (anded_text p.before p.last q.tree) ∙ append_assoc (ors_text (joined p.before p.last)) (word words.And ∷ unit_text q.tree) u.2 ∙ ap (λ (t : List Terminal). ors_text (joined p.before p.last) ++ word words.And ∷ t) q.text ∙ p.text;
  sum_means = p.sum_means;
  last_means = ap (λ f. both f (unit_formula q.tree)) p.last_means ∙ ap (λ f. both product f) q.means;
}

ored : (room left : ℕ) (ts : List Terminal) (now : ℕ) (sum : Option Formula) (product : Formula) (rest : List Terminal) (u : Formula × ℕ × List Terminal) → SoFar room left ts (suc now) sum product (word words.Or ∷ rest) → IsUnit room now rest u → SoFar room left ts u.1 (Some (summed_of sum product)) u.0 u.2
ored room left ts now sum product rest u p q = record {
  few = p.few;
  before = Some (joined p.before p.last);
  last = AndsTree.one_unit q.tree;
  fits = (p.fits, q.fits);
  size = omega (arith, p.size, q.size);
  text = append_assoc (ors_text (joined p.before p.last)) (word words.Or ∷ unit_text q.tree) u.2 ∙ ap (λ (t : List Terminal). ors_text (joined p.before p.last) ++ word words.Or ∷ t) q.text ∙ p.text;
  sum_means = ap (λ f. Some f) (means_so_far p.before p.last sum product p.sum_means p.last_means);
  last_means = q.means;
}

abbrev Units : ℕ → (ℕ → List Terminal → Read) → Type 0
Units room unit = (left : ℕ) (ts : List Terminal) → left ≤ 31 → ReadsUnit room left ts (unit left ts)

abbrev Chains : ℕ → (ℕ → List Terminal → Read) → ℕ → Type 0
Chains room unit turns = (left : ℕ) (ts : List Terminal) (now : ℕ) (sum : Option Formula) (product : Formula) (rest : List Terminal) → SoFar room left ts now sum product rest → now ≤ turns → ReadsPred room left ts (chain_at unit turns now sum product rest)

ended_chain : (room : ℕ) (unit : ℕ → List Terminal → Read) → Chains room unit zero
unfolding chain_at
ended_chain room unit left ts zero sum product rest p le =
    by_link_reads (ReadsPred room left ts) 0 (λ left rest. Err 0) (λ left rest. Err 0) (λ ts. Ok (summed_of sum product, zero, ts)) rest
    (λ more e st. so_far_goes room left ts zero sum product rest st p ∙ ap (λ (t : List Terminal). run zero (Sym.tail room ∷ st) t) (sym e))
    (λ more e st. so_far_goes room left ts zero sum product rest st p ∙ ap (λ (t : List Terminal). run zero (Sym.tail room ∷ st) t) (sym e))
    (λ stops. so_far_ends room left ts zero sum product rest p stops)
ended_chain room unit left ts (suc now) sum product rest p le = absurd (omega (arith, le))

longer_chain : (room : ℕ) (unit : ℕ → List Terminal → Read) (turns : ℕ) → Units room unit → Chains room unit turns → Chains room unit (suc turns)
unfolding chain_at
longer_chain room unit turns units chains left ts zero sum product rest p le =
    by_link_reads (ReadsPred room left ts) zero (λ left rest. unit left rest >>= λ u. chain_at unit turns u.1 sum (both product u.0) u.2) (λ left rest. unit left rest >>= λ u. chain_at unit turns u.1 (Some (summed_of sum product)) u.0 u.2) (λ ts. Ok (summed_of sum product, zero, ts)) rest
    (λ more e st. so_far_goes room left ts zero sum product rest st p ∙ ap (λ (t : List Terminal). run zero (Sym.tail room ∷ st) t) (sym e))
    (λ more e st. so_far_goes room left ts zero sum product rest st p ∙ ap (λ (t : List Terminal). run zero (Sym.tail room ∷ st) t) (sym e))
    (λ stops. so_far_ends room left ts zero sum product rest p stops)
longer_chain room unit turns units chains left ts (suc now) sum product rest p le =
    by_link_reads (ReadsPred room left ts) (suc now) (λ left rest. unit left rest >>= λ u. chain_at unit turns u.1 sum (both product u.0) u.2) (λ left rest. unit left rest >>= λ u. chain_at unit turns u.1 (Some (summed_of sum product)) u.0 u.2) (λ ts. Ok (summed_of sum product, suc now, ts)) rest
    (λ more e.
    let q : SoFar room left ts (suc now) sum product (word words.And ∷ more) = subst (λ t. SoFar room left ts (suc now) sum product t) (sym e) p in
    subst (ReadsPred room left ts) (sym (spend_more now (λ left rest. unit left rest >>= λ u. chain_at unit turns u.1 sum (both product u.0) u.2) (word words.And) more)) (bind_reads (ReadsUnit room now more) (ReadsPred room left ts) (λ u. chain_at unit turns u.1 sum (both product u.0) u.2) (unit now more) (units now more (omega (arith, p.few, p.size, ors_some (joined p.before p.last))))
    (λ u h. chains left ts u.1 sum (both product u.0) u.2 (anded room left ts now sum product more u q h) (omega (arith, le, h.size, unit_some h.tree)))
    (λ n h st. so_far_goes room left ts (suc now) sum product (word words.And ∷ more) st q ∙ h (Sym.tail room ∷ st))))
    (λ more e.
    let q : SoFar room left ts (suc now) sum product (word words.Or ∷ more) = subst (λ t. SoFar room left ts (suc now) sum product t) (sym e) p in
    subst (ReadsPred room left ts) (sym (spend_more now (λ left rest. unit left rest >>= λ u. chain_at unit turns u.1 (Some (summed_of sum product)) u.0 u.2) (word words.Or) more)) (bind_reads (ReadsUnit room now more) (ReadsPred room left ts) (λ u. chain_at unit turns u.1 (Some (summed_of sum product)) u.0 u.2) (unit now more) (units now more (omega (arith, p.few, p.size, ors_some (joined p.before p.last))))
    (λ u h. chains left ts u.1 (Some (summed_of sum product)) u.0 u.2 (ored room left ts now sum product more u q h) (omega (arith, le, h.size, unit_some h.tree)))
    (λ n h st. so_far_goes room left ts (suc now) sum product (word words.Or ∷ more) st q ∙ h (Sym.tail room ∷ st))))
    (λ stops. so_far_ends room left ts (suc now) sum product rest p stops)

chain_reads : (room : ℕ) (unit : ℕ → List Terminal → Read) (turns : ℕ) → Units room unit → Chains room unit turns
chain_reads room unit zero units = ended_chain room unit
chain_reads room unit (suc turns) units = longer_chain room unit turns units (chain_reads room unit turns units)

-- at most 31 and and or may come
pub pred_reads : (room : ℕ) (unit : ℕ → List Terminal → Read) → Units room unit → (left : ℕ) (ts : List Terminal) → left ≤ 31 → ReadsPred room left ts (pred_by unit left ts)
unfolding pred_by
pred_reads room unit units left ts le =
    bind_reads (ReadsUnit room left ts) (ReadsPred room left ts) (λ u. chain_at unit 31 u.1 None u.0 u.2) (unit left ts) (units left ts le)
    (λ u h. chain_reads room unit 31 units left ts u.1 None u.0 u.2
    (record { few = le; before = None; last = AndsTree.one_unit h.tree; fits = h.fits; size = h.size; text = h.text; sum_means = refl; last_means = h.means })
    (omega (arith, le, h.size, unit_some h.tree)))
    (λ n h st. h (Sym.tail room ∷ st))

-- ---- units

inner_reads : (room : ℕ) → Units room (unit_at room) → (left : ℕ) (rest : List Terminal) → left ≤ 31 → ReadsUnit (suc room) left (mark marks.Open ∷ rest) (pred_by (unit_at room) left rest >>= λ p. mark_at marks.Close p.2 >>= λ after. Ok (p.0, p.1, after))
inner_reads room units left rest le =
    bind_reads (ReadsPred room left rest) (ReadsUnit (suc room) left (mark marks.Open ∷ rest)) (λ p. mark_at marks.Close p.2 >>= λ after. Ok (p.0, p.1, after)) (pred_by (unit_at room) left rest) (pred_reads room (unit_at room) units left rest le)
    (λ p h. bind_reads (ReadsMark marks.Close p.2) (ReadsUnit (suc room) left (mark marks.Open ∷ rest)) (λ after. Ok (p.0, p.1, after)) (mark_at marks.Close p.2) (mark_reads marks.Close p.2)
    (λ after e. record { tree = UnitTree.in_parens h.tree; fits = h.fits; size = h.size; text = ap (λ (t : List Terminal). mark marks.Open ∷ t) (append_assoc (ors_text h.tree) (mark marks.Close ∷ []) after ∙ ap (λ (t : List Terminal). ors_text h.tree ++ t) e ∙ h.text); means = h.means })
    (λ n g st. pred_goes room left rest p st h ∙ g p.1 st))
    (λ n h st. h st)

not_reads : (room : ℕ) → Units room (unit_at room) → (left : ℕ) (rest : List Terminal) → left ≤ 31 → ReadsUnit (suc room) left (word words.Not ∷ rest) (unit_at room left rest >>= λ u. Ok (not_so u.0, u.1, u.2))
not_reads room units left rest le =
    bind_reads (ReadsUnit room left rest) (ReadsUnit (suc room) left (word words.Not ∷ rest)) (λ u. Ok (not_so u.0, u.1, u.2)) (unit_at room left rest) (units left rest le)
    (λ u h. record { tree = UnitTree.not_tree h.tree; fits = h.fits; size = h.size; text = ap (λ (t : List Terminal). word words.Not ∷ t) h.text; means = ap not_so h.means })
    (λ n h st. h st)

pub unit_reads : (room : ℕ) → Units room (unit_at room)
unfolding unit_at unit_by comparison_at
unit_reads zero left [] le = λ st. refl
unit_reads zero left (terminals.Name n ∷ rest) le = comparison_reads (Column n) zero left rest
unit_reads zero left (terminals.Integer i ∷ rest) le = comparison_reads (Literal (Int i)) zero left rest
unit_reads zero left (terminals.Text t ∷ rest) le = comparison_reads (Literal (Text t)) zero left rest
unit_reads zero left (terminals.Word words.Not ∷ rest) le = λ st. refl
unit_reads zero left (terminals.Mark marks.Open ∷ rest) le = λ st. refl
unit_reads zero left (t ∷ rest) le = λ st. refl
unit_reads (suc room) left [] le = λ st. refl
unit_reads (suc room) left (terminals.Name n ∷ rest) le = comparison_reads (Column n) (suc room) left rest
unit_reads (suc room) left (terminals.Integer i ∷ rest) le = comparison_reads (Literal (Int i)) (suc room) left rest
unit_reads (suc room) left (terminals.Text t ∷ rest) le = comparison_reads (Literal (Text t)) (suc room) left rest
unit_reads (suc room) left (terminals.Word words.Not ∷ rest) le = not_reads room (unit_reads room) left rest le
unit_reads (suc room) left (terminals.Mark marks.Open ∷ rest) le = inner_reads room (unit_reads room) left rest le
unit_reads (suc room) left (t ∷ rest) le = λ st. refl

-- one turn of the chain
pub chain_open : (unit : ℕ → List Terminal → Read) (n left : ℕ) (sum : Option Formula) (product : Formula) (ts : List Terminal) → n < 31
    → chain_at unit (31 - n) left sum product ts ≡ by_link (link_of ts) left (λ left rest. unit left rest >>= λ u. chain_at unit (31 - (n + 1)) u.1 sum (both product u.0) u.2) (λ left rest. unit left rest >>= λ u. chain_at unit (31 - (n + 1)) u.1 (Some (summed_of sum product)) u.0 u.2) (λ ts. Ok (summed_of sum product, left, ts)) ts
unfolding chain_at
chain_open unit n left sum product ts lt = ap (λ t. chain_at unit t left sum product ts) (let e : 31 - n ≡ suc (31 - (n + 1)) = omega (arith, lt) in e)

-- after 31 turns
pub chain_ended : (unit : ℕ → List Terminal → Read) (n left : ℕ) (sum : Option Formula) (product : Formula) (ts : List Terminal) → 31 ≤ n
    → chain_at unit (31 - n) left sum product ts ≡ by_link (link_of ts) 0 (λ left rest. Err 0) (λ left rest. Err 0) (λ ts. Ok (summed_of sum product, left, ts)) ts
unfolding chain_at
chain_ended unit n left sum product ts le = ap (λ t. chain_at unit t left sum product ts) (let e : 31 - n ≡ zero = omega (arith, le) in e)

pub next_and : (unit : ℕ → List Terminal → Read) (n left : ℕ) (sum : Option Formula) (product : Formula) (ts : List Terminal) (start : Read) (u : Formula) (left' : ℕ) (sum' : Option Formula) (product' : Formula) (rest' : List Terminal)
    → n < 31 → link_of ts ≡ links.And → (left ≡ 0 → ⊥) → unit (left - 1) (drop 1 ts) ≡ Ok (u, left', rest') → sum' ≡ sum → product' ≡ both product u
    → chain_at unit (31 - n) left sum product ts ≡ start → chain_at unit (31 - (n + 1)) left' sum' product' rest' ≡ start
next_and unit n left sum product ts start u left' sum' product' rest' lt link ne one sum-is product-is whole =
    let next : Formula × ℕ × List Terminal → Read = λ u. chain_at unit (31 - (n + 1)) u.1 sum (both product u.0) u.2 in
    let a : ℕ → List Terminal → Read = λ left rest. unit left rest >>= next in
    let o : ℕ → List Terminal → Read = λ left rest. unit left rest >>= λ u. chain_at unit (31 - (n + 1)) u.1 (Some (summed_of sum product)) u.0 u.2 in
    let s : List Terminal → Read = λ ts. Ok (summed_of sum product, left, ts) in
    ap (λ s. chain_at unit (31 - (n + 1)) left' s product' rest') sum-is ∙ ap (λ p. chain_at unit (31 - (n + 1)) left' sum p rest') product-is
    ∙ sym (ap (λ (r : Read). r >>= next) one)
    ∙ sym (ap (λ (b : Bool). cond {A = Read} b (Err (length ts)) (a (left - 1) (drop 1 ts))) (ne_eqb left 0 ne))
    ∙ sym (ap (λ (l : Link). by_link l left a o s ts) link)
    ∙ sym (chain_open unit n left sum product ts lt)
    ∙ whole

pub next_or : (unit : ℕ → List Terminal → Read) (n left : ℕ) (sum : Option Formula) (product : Formula) (ts : List Terminal) (start : Read) (u : Formula) (left' : ℕ) (sum' : Option Formula) (product' : Formula) (rest' : List Terminal)
    → n < 31 → link_of ts ≡ links.Or → (left ≡ 0 → ⊥) → unit (left - 1) (drop 1 ts) ≡ Ok (u, left', rest') → sum' ≡ Some (summed_of sum product) → product' ≡ u
    → chain_at unit (31 - n) left sum product ts ≡ start → chain_at unit (31 - (n + 1)) left' sum' product' rest' ≡ start
next_or unit n left sum product ts start u left' sum' product' rest' lt link ne one sum-is product-is whole =
    let next : Formula × ℕ × List Terminal → Read = λ u. chain_at unit (31 - (n + 1)) u.1 (Some (summed_of sum product)) u.0 u.2 in
    let a : ℕ → List Terminal → Read = λ left rest. unit left rest >>= λ u. chain_at unit (31 - (n + 1)) u.1 sum (both product u.0) u.2 in
    let o : ℕ → List Terminal → Read = λ left rest. unit left rest >>= next in
    let s : List Terminal → Read = λ ts. Ok (summed_of sum product, left, ts) in
    ap (λ s. chain_at unit (31 - (n + 1)) left' s product' rest') sum-is ∙ ap (λ p. chain_at unit (31 - (n + 1)) left' (Some (summed_of sum product)) p rest') product-is
    ∙ sym (ap (λ (r : Read). r >>= next) one)
    ∙ sym (ap (λ (b : Bool). cond {A = Read} b (Err (length ts)) (o (left - 1) (drop 1 ts))) (ne_eqb left 0 ne))
    ∙ sym (ap (λ (l : Link). by_link l left a o s ts) link)
    ∙ sym (chain_open unit n left sum product ts lt)
    ∙ whole
