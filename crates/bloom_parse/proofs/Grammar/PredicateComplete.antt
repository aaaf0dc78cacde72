-- Each predicate of the grammar is read as what it means.
use Rattle.std.proofs.Common.{◌≡◌, ℕ, zero, suc, ◌+◌, ◌≤◌, List, [], ◌∷◌, ◌++◌, Option, Some, None, Result, Ok, refl, sym, ap, ◌∙◌, append_assoc, arith}
use Rattle.bloom_forms.specs.declared.expr.Term.{Term}
use Rattle.bloom_forms.specs.declared.expr.Term.TheVariants.{Column, Literal}
use Rattle.blz_value.specs.declared.test.Op.{Op}
use Rattle.blz_value.specs.declared.value.Value.TheVariants.{Int, Text}
use Rattle.bloom_forms.specs.Query.{Formula}
use Rattle.bloom_forms.specs.Query.Formula.{compare, both, not_so}
use Rattle.bloom_parse.specs.declared.lexing.terminal.Terminal.{Terminal}
use Rattle.bloom_parse.specs.declared.lexing.terminal.Terminal.TheVariants as terminals
use Rattle.bloom_parse.specs.declared.lexing.terminal.Word.TheVariants as words
use Rattle.bloom_parse.specs.declared.lexing.terminal.Mark.TheVariants as marks
use Rattle.bloom_parse.specs.Trees.{UnitTree, AndsTree, OrsTree, word, mark, term_token, unit_text, ands_text, ors_text, unit_size, ands_size, ors_size, UnitFits, AndsFit, OrsFit, unit_formula, ands_formula, ors_formula}
use Rattle.bloom_parse.specs.Code.ReadingSingle.{◌>>=◌, mark_at, operand_at}
use Rattle.bloom_parse.specs.Code.ReadingPredicates.{Read, comparison_at, summed_of, chain_at, pred_by, unit_by, unit_at}
use Rattle.bloom_parse.proofs.Machine.MachineLemmas.{pred, pred_is, unit_some, ands_some, ors_some}
use Rattle.bloom_parse.proofs.Grammar.PredicateCorrect.{spend_more}

abbrev done : Formula × ℕ × List Terminal → Read
done x = Ok x

operand_again : (t : Term) (rest : List Terminal) → operand_at (term_token t ∷ rest) ≡ Ok (t, rest)
operand_again (Column n) rest = refl
operand_again (Literal (Int i)) rest = refl
operand_again (Literal (Text t)) rest = refl

comparison_again : (l : Term) (o : Op) (r : Term) (room left : ℕ) (rest : List Terminal) → unit_at room left (term_token l ∷ terminals.Sign o ∷ term_token r ∷ rest) ≡ Ok (compare l o r, left, rest)
unfolding unit_at unit_by comparison_at
comparison_again (Column n) o r zero left rest = ap (λ (x : Result (Term × List Terminal) ℕ). x >>= λ r. done (compare (Column n) o r.0, left, r.1)) (operand_again r rest)
comparison_again (Literal (Int i)) o r zero left rest = ap (λ (x : Result (Term × List Terminal) ℕ). x >>= λ r. done (compare (Literal (Int i)) o r.0, left, r.1)) (operand_again r rest)
comparison_again (Literal (Text t)) o r zero left rest = ap (λ (x : Result (Term × List Terminal) ℕ). x >>= λ r. done (compare (Literal (Text t)) o r.0, left, r.1)) (operand_again r rest)
comparison_again (Column n) o r (suc room) left rest = ap (λ (x : Result (Term × List Terminal) ℕ). x >>= λ r. done (compare (Column n) o r.0, left, r.1)) (operand_again r rest)
comparison_again (Literal (Int i)) o r (suc room) left rest = ap (λ (x : Result (Term × List Terminal) ℕ). x >>= λ r. done (compare (Literal (Int i)) o r.0, left, r.1)) (operand_again r rest)
comparison_again (Literal (Text t)) o r (suc room) left rest = ap (λ (x : Result (Term × List Terminal) ℕ). x >>= λ r. done (compare (Literal (Text t)) o r.0, left, r.1)) (operand_again r rest)

abbrev enter : (ℕ → List Terminal → Read) → Option Formula → ℕ → ℕ → List Terminal → Read
enter unit sum turns left ts = unit left ts >>= λ u. chain_at unit turns u.1 sum u.0 u.2

chain_and : (unit : ℕ → List Terminal → Read) (turns left : ℕ) (sum : Option Formula) (product : Formula) (rest : List Terminal) → chain_at unit (suc turns) (suc left) sum product (word words.And ∷ rest) ≡ (unit left rest >>= λ u. chain_at unit turns u.1 sum (both product u.0) u.2)
unfolding chain_at
chain_and unit turns left sum product rest = spend_more left (λ left rest. unit left rest >>= λ u. chain_at unit turns u.1 sum (both product u.0) u.2) (word words.And) rest

chain_or : (unit : ℕ → List Terminal → Read) (turns left : ℕ) (sum : Option Formula) (product : Formula) (rest : List Terminal) → chain_at unit (suc turns) (suc left) sum product (word words.Or ∷ rest) ≡ enter unit (Some (summed_of sum product)) turns left rest
unfolding chain_at
chain_or unit turns left sum product rest = spend_more left (λ left rest. unit left rest >>= λ u. chain_at unit turns u.1 (Some (summed_of sum product)) u.0 u.2) (word words.Or) rest

chain_stop : (unit : ℕ → List Terminal → Read) (turns left : ℕ) (sum : Option Formula) (product : Formula) (rest : List Terminal) → chain_at unit turns left sum product (mark marks.Close ∷ rest) ≡ Ok (summed_of sum product, left, mark marks.Close ∷ rest)
unfolding chain_at
chain_stop unit zero left sum product rest = refl
chain_stop unit (suc turns) left sum product rest = refl

abbrev pub UnitAgain : UnitTree → Type 0
UnitAgain u = (room left after : ℕ) (rest : List Terminal) → UnitFits room u → suc left ≡ unit_size u + after → left ≤ 31 → unit_at room left (unit_text u ++ rest) ≡ Ok (unit_formula u, after, rest)

abbrev Goes : ℕ → Read → ℕ → Option Formula → Formula → List Terminal → Type 0
Goes room start after sum product rest = (turns : ℕ) × (after ≤ turns) × (start ≡ chain_at (unit_at room) turns after sum product rest)

abbrev pub AndsAgain : AndsTree → Type 0
AndsAgain a = (room turns left after : ℕ) (sum : Option Formula) (rest : List Terminal) → AndsFit room a → suc left ≡ ands_size a + after → left ≤ turns → left ≤ 31 → Goes room (enter (unit_at room) sum turns left (ands_text a ++ rest)) after sum (ands_formula a) rest

abbrev sum_of : OrsTree → Option Formula
sum_of (OrsTree.one_ands a) = None
sum_of (OrsTree.or_then o a) = Some (ors_formula o)

abbrev last_of : OrsTree → Formula
last_of (OrsTree.one_ands a) = ands_formula a
last_of (OrsTree.or_then o a) = ands_formula a

whole_of : (o : OrsTree) → summed_of (sum_of o) (last_of o) ≡ ors_formula o
whole_of (OrsTree.one_ands a) = refl
whole_of (OrsTree.or_then o a) = refl

abbrev pub OrsAgain : OrsTree → Type 0
OrsAgain o = (room left after : ℕ) (rest : List Terminal) → OrsFit room o → suc left ≡ ors_size o + after → left ≤ 31 → Goes room (enter (unit_at room) None 31 left (ors_text o ++ rest)) after (sum_of o) (last_of o) rest

and_turn : (u : UnitTree) → UnitAgain u → (room turns mid here after : ℕ) (sum : Option Formula) (product : Formula) (rest : List Terminal) → mid ≡ suc here → mid ≤ turns → here ≤ 31 → UnitFits room u → suc here ≡ unit_size u + after
    → Goes room (chain_at (unit_at room) turns mid sum product (word words.And ∷ (unit_text u ++ rest))) after sum (both product (unit_formula u)) rest
and_turn u again room zero mid here after sum product rest is le few fits size = absurd (omega (arith, is, le))
and_turn u again room (suc t) mid here after sum product rest is le few fits size = (
  t,
  omega (arith, is, le, size, unit_some u),
  ap (λ m. chain_at (unit_at room) (suc t) m sum product (word words.And ∷ (unit_text u ++ rest))) is
      ∙ chain_and (unit_at room) t here sum product (unit_text u ++ rest)
      ∙ ap (λ (r : Read). r >>= λ u. chain_at (unit_at room) t u.1 sum (both product u.0) u.2) (again room here after rest fits size few),
)

or_turn : (a : AndsTree) → AndsAgain a → (room turns mid here after : ℕ) (sum : Option Formula) (product : Formula) (rest : List Terminal) → mid ≡ suc here → mid ≤ turns → here ≤ 31 → AndsFit room a → suc here ≡ ands_size a + after
    → Goes room (chain_at (unit_at room) turns mid sum product (word words.Or ∷ (ands_text a ++ rest))) after (Some (summed_of sum product)) (ands_formula a) rest
or_turn a again room zero mid here after sum product rest is le few fits size = absurd (omega (arith, is, le))
or_turn a again room (suc t) mid here after sum product rest is le few fits size =
    let g = again room t here after (Some (summed_of sum product)) rest fits size (omega (arith, is, le)) few in (
      g.0,
      g.1,
      ap (λ m. chain_at (unit_at room) (suc t) m sum product (word words.Or ∷ (ands_text a ++ rest))) is
          ∙ chain_or (unit_at room) t here sum product (ands_text a ++ rest) ∙ g.2,
    )

pub pred_ends : (o : OrsTree) (room left after : ℕ) (rest : List Terminal) → Goes room (enter (unit_at room) None 31 left (ors_text o ++ mark marks.Close ∷ rest)) after (sum_of o) (last_of o) (mark marks.Close ∷ rest) → pred_by (unit_at room) left (ors_text o ++ mark marks.Close ∷ rest) ≡ Ok (ors_formula o, after, mark marks.Close ∷ rest)
unfolding pred_by
pred_ends o room left after rest g = g.2 ∙ chain_stop (unit_at room) g.0 after (sum_of o) (last_of o) rest ∙ ap (λ f. done (f, after, mark marks.Close ∷ rest)) (whole_of o)

parens_again : (o : OrsTree) (room left after : ℕ) (rest : List Terminal) → Goes room (enter (unit_at room) None 31 left (ors_text o ++ mark marks.Close ∷ rest)) after (sum_of o) (last_of o) (mark marks.Close ∷ rest) → unit_at (suc room) left (mark marks.Open ∷ ((ors_text o ++ mark marks.Close ∷ []) ++ rest)) ≡ Ok (ors_formula o, after, rest)
unfolding unit_at unit_by
parens_again o room left after rest g =
    ap (λ (t : List Terminal). unit_at (suc room) left (mark marks.Open ∷ t)) (append_assoc (ors_text o) (mark marks.Close ∷ []) rest)
    ∙ ap (λ (r : Read). r >>= λ p. mark_at marks.Close p.2 >>= λ after. done (p.0, p.1, after)) (pred_ends o room left after rest g)

not_again : (u : UnitTree) (room left after : ℕ) (rest : List Terminal) → unit_at room left (unit_text u ++ rest) ≡ Ok (unit_formula u, after, rest) → unit_at (suc room) left (word words.Not ∷ (unit_text u ++ rest)) ≡ Ok (not_so (unit_formula u), after, rest)
unfolding unit_at unit_by
not_again u room left after rest e = ap (λ (r : Read). r >>= λ u. done (not_so u.0, u.1, u.2)) e

-- one more unit behind and
and_joined : (a : AndsTree) (u : UnitTree) (room turns left mid after : ℕ) (sum : Option Formula) (rest : List Terminal)
    → (g : Goes room (enter (unit_at room) sum turns left (ands_text a ++ word words.And ∷ (unit_text u ++ rest))) mid sum (ands_formula a) (word words.And ∷ (unit_text u ++ rest)))
    → Goes room (chain_at (unit_at room) g.0 mid sum (ands_formula a) (word words.And ∷ (unit_text u ++ rest))) after sum (both (ands_formula a) (unit_formula u)) rest
    → Goes room (enter (unit_at room) sum turns left ((ands_text a ++ word words.And ∷ unit_text u) ++ rest)) after sum (both (ands_formula a) (unit_formula u)) rest
and_joined a u room turns left mid after sum rest g h = (h.0, h.1, ap (λ (t : List Terminal). enter (unit_at room) sum turns left t) (append_assoc (ands_text a) (word words.And ∷ unit_text u) rest) ∙ g.2 ∙ h.2)

-- one more product behind or
or_joined : (o : OrsTree) (a : AndsTree) (room left mid after : ℕ) (rest : List Terminal)
    → (g : Goes room (enter (unit_at room) None 31 left (ors_text o ++ word words.Or ∷ (ands_text a ++ rest))) mid (sum_of o) (last_of o) (word words.Or ∷ (ands_text a ++ rest)))
    → Goes room (chain_at (unit_at room) g.0 mid (sum_of o) (last_of o) (word words.Or ∷ (ands_text a ++ rest))) after (Some (summed_of (sum_of o) (last_of o))) (ands_formula a) rest
    → Goes room (enter (unit_at room) None 31 left ((ors_text o ++ word words.Or ∷ ands_text a) ++ rest)) after (Some (ors_formula o)) (ands_formula a) rest
or_joined o a room left mid after rest g h = (h.0, h.1, ap (λ (t : List Terminal). enter (unit_at room) None 31 left t) (append_assoc (ors_text o) (word words.Or ∷ ands_text a) rest) ∙ g.2 ∙ h.2 ∙ ap (λ f. chain_at (unit_at room) h.0 after (Some f) (ands_formula a) rest) (whole_of o))

mutual
  pub unit_again : (u : UnitTree) → UnitAgain u
  unit_again (UnitTree.not_tree u) zero left after rest fits size few = absurd fits
  unit_again (UnitTree.not_tree u) (suc room) left after rest fits size few = not_again u room left after rest (unit_again u room left after rest fits size few)
  unit_again (UnitTree.in_parens p) zero left after rest fits size few = absurd fits
  unit_again (UnitTree.in_parens p) (suc room) left after rest fits size few = parens_again p room left after rest (ors_again p room left after (mark marks.Close ∷ rest) fits size few)
  unit_again (UnitTree.comparison l o r) room left after rest fits size few = comparison_again l o r room left rest ∙ ap (λ n. done (compare l o r, n, rest)) (let e : left ≡ after = omega (arith, size) in e)

  pub ands_again : (a : AndsTree) → AndsAgain a
  ands_again (AndsTree.one_unit u) room turns left after sum rest fits size le few =
      (turns, omega (arith, size, le, unit_some u), ap (λ (r : Read). r >>= λ u. chain_at (unit_at room) turns u.1 sum u.0 u.2) (unit_again u room left after rest fits size few))
  ands_again (AndsTree.and_then a u) room turns left after sum rest fits size le few =
      let mid = unit_size u + after in
      let is = pred_is mid (omega (arith, unit_some u)) in
      let g = ands_again a room turns left mid sum (word words.And ∷ (unit_text u ++ rest)) fits.0 (omega (arith, size)) le few in
      and_joined a u room turns left mid after sum rest g (and_turn u (unit_again u) room g.0 mid (pred mid) after sum (ands_formula a) rest is g.1 (omega (arith, is, size, few, ands_some a)) fits.1 (sym is))

  pub ors_again : (o : OrsTree) → OrsAgain o
  ors_again (OrsTree.one_ands a) room left after rest fits size few = ands_again a room 31 left after None rest fits size few few
  ors_again (OrsTree.or_then o a) room left after rest fits size few =
      let mid = ands_size a + after in
      let is = pred_is mid (omega (arith, ands_some a)) in
      let g = ors_again o room left mid (word words.Or ∷ (ands_text a ++ rest)) fits.0 (omega (arith, size)) few in
      or_joined o a room left mid after rest g (or_turn a (ands_again a) room g.0 mid (pred mid) after (sum_of o) (last_of o) rest is g.1 (omega (arith, is, size, few, ors_some o)) fits.1 (sym is))
