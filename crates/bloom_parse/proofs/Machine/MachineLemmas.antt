-- The machine takes each text of the grammar.
use Rattle.std.proofs.Common.{◌≡◌, ℕ, zero, suc, ◌+◌, ◌<◌, List, [], ◌∷◌, ◌++◌, refl, sym, ap, ◌∙◌, append_assoc, arith}
use Rattle.bloom_forms.specs.declared.expr.Term.{Term}
use Rattle.bloom_forms.specs.declared.expr.Term.TheVariants.{Column, Literal}
use Rattle.blz_value.specs.declared.test.Op.{Op}
use Rattle.blz_value.specs.declared.value.Value.TheVariants.{Int, Text}
use Rattle.bloom_parse.specs.declared.lexing.terminal.Terminal.{Terminal}
use Rattle.bloom_parse.specs.declared.lexing.terminal.Terminal.TheVariants as terminals
use Rattle.bloom_parse.specs.declared.lexing.terminal.Word.TheVariants as words
use Rattle.bloom_parse.specs.declared.lexing.terminal.Mark.TheVariants as marks
use Rattle.bloom_parse.specs.Trees.{UnitTree, AndsTree, OrsTree, word, mark, term_token, unit_text, ands_text, ors_text, unit_size, ands_size, ors_size, UnitFits, AndsFit, OrsFit}
use Rattle.bloom_parse.proofs.Machine.Machine.{Sym, run}

operand_goes : (t : Term) (k : ℕ) (st : List Sym) (rest : List Terminal) → run k (Sym.an_operand ∷ st) (term_token t ∷ rest) ≡ run k st rest
operand_goes (Column n) k st rest = refl
operand_goes (Literal (Int i)) k st rest = refl
operand_goes (Literal (Text t)) k st rest = refl

comparison_goes : (l : Term) (o : Op) (r : Term) (room k : ℕ) (st : List Sym) (rest : List Terminal) → run k (Sym.unit room ∷ st) (term_token l ∷ terminals.Sign o ∷ term_token r ∷ rest) ≡ run k st rest
comparison_goes (Column n) o r room k st rest = operand_goes r k st rest
comparison_goes (Literal (Int i)) o r room k st rest = operand_goes r k st rest
comparison_goes (Literal (Text t)) o r room k st rest = operand_goes r k st rest

abbrev pub UnitGoes : UnitTree → Type 0
UnitGoes u = (room k left : ℕ) (st : List Sym) (rest : List Terminal) → UnitFits room u → suc k ≡ unit_size u + left → run k (Sym.unit room ∷ st) (unit_text u ++ rest) ≡ run left st rest

abbrev pub AndsGo : AndsTree → Type 0
AndsGo a = (room k left : ℕ) (st : List Sym) (rest : List Terminal) → AndsFit room a → suc k ≡ ands_size a + left → run k (Sym.unit room ∷ Sym.tail room ∷ st) (ands_text a ++ rest) ≡ run left (Sym.tail room ∷ st) rest

abbrev pub OrsGo : OrsTree → Type 0
OrsGo o = (room k left : ℕ) (st : List Sym) (rest : List Terminal) → OrsFit room o → suc k ≡ ors_size o + left → run k (Sym.unit room ∷ Sym.tail room ∷ st) (ors_text o ++ rest) ≡ run left (Sym.tail room ∷ st) rest

mutual
  pub unit_some : (u : UnitTree) → 0 < unit_size u
  unit_some (UnitTree.not_tree u) = unit_some u
  unit_some (UnitTree.in_parens p) = ors_some p
  unit_some (UnitTree.comparison l o r) = omega arith

  pub ands_some : (a : AndsTree) → 0 < ands_size a
  ands_some (AndsTree.one_unit u) = unit_some u
  ands_some (AndsTree.and_then a u) = omega (arith, ands_some a)

  pub ors_some : (o : OrsTree) → 0 < ors_size o
  ors_some (OrsTree.one_ands a) = ands_some a
  ors_some (OrsTree.or_then o a) = omega (arith, ors_some o)

abbrev pub pred : ℕ → ℕ
pred zero = zero
pred (suc n) = n

pub pred_is : (n : ℕ) → 0 < n → n ≡ suc (pred n)
pred_is zero lt = absurd (omega (arith, lt))
pred_is (suc n) lt = refl

-- behind and or or
and_next : (left k room : ℕ) (st : List Sym) (rest : List Terminal) → left ≡ suc k → run left (Sym.tail room ∷ st) (word words.And ∷ rest) ≡ run k (Sym.unit room ∷ Sym.tail room ∷ st) rest
and_next left k room st rest e = ap (λ n. run n (Sym.tail room ∷ st) (word words.And ∷ rest)) e

or_next : (left k room : ℕ) (st : List Sym) (rest : List Terminal) → left ≡ suc k → run left (Sym.tail room ∷ st) (word words.Or ∷ rest) ≡ run k (Sym.unit room ∷ Sym.tail room ∷ st) rest
or_next left k room st rest e = ap (λ n. run n (Sym.tail room ∷ st) (word words.Or ∷ rest)) e

mutual
  pub unit_goes : (u : UnitTree) → UnitGoes u
  unit_goes (UnitTree.not_tree u) zero k left st rest fits size = absurd fits
  unit_goes (UnitTree.not_tree u) (suc room) k left st rest fits size = unit_goes u room k left st rest fits size
  unit_goes (UnitTree.in_parens p) zero k left st rest fits size = absurd fits
  unit_goes (UnitTree.in_parens p) (suc room) k left st rest fits size =
      ap (λ ts. run k (Sym.unit room ∷ Sym.tail room ∷ st) ts) (append_assoc (ors_text p) (mark marks.Close ∷ []) rest)
      ∙ ors_go p room k left st (mark marks.Close ∷ rest) fits size
  unit_goes (UnitTree.comparison l o r) room k left st rest fits size =
      ap (λ n. run n (Sym.unit room ∷ st) (term_token l ∷ terminals.Sign o ∷ term_token r ∷ rest)) (let e : k ≡ left = omega (arith, size) in e)
      ∙ comparison_goes l o r room left st rest

  pub ands_go : (a : AndsTree) → AndsGo a
  ands_go (AndsTree.one_unit u) room k left st rest fits size = unit_goes u room k left (Sym.tail room ∷ st) rest fits size
  ands_go (AndsTree.and_then a u) room k left st rest fits size =
      let next = unit_size u + left in
      let here = pred next in
      ap (λ ts. run k (Sym.unit room ∷ Sym.tail room ∷ st) ts) (append_assoc (ands_text a) (word words.And ∷ unit_text u) rest)
      ∙ ands_go a room k next st (word words.And ∷ (unit_text u ++ rest)) fits.0 (omega (arith, size))
      ∙ and_next next here room st (unit_text u ++ rest) (pred_is next (omega (arith, unit_some u)))
      ∙ unit_goes u room here left (Sym.tail room ∷ st) rest fits.1 (sym (pred_is next (omega (arith, unit_some u))))

  pub ors_go : (o : OrsTree) → OrsGo o
  ors_go (OrsTree.one_ands a) room k left st rest fits size = ands_go a room k left st rest fits size
  ors_go (OrsTree.or_then o a) room k left st rest fits size =
      let next = ands_size a + left in
      let here = pred next in
      ap (λ ts. run k (Sym.unit room ∷ Sym.tail room ∷ st) ts) (append_assoc (ors_text o) (word words.Or ∷ ands_text a) rest)
      ∙ ors_go o room k next st (word words.Or ∷ (ands_text a ++ rest)) fits.0 (omega (arith, size))
      ∙ or_next next here room st (ands_text a ++ rest) (pred_is next (omega (arith, ands_some a)))
      ∙ ands_go a room here left st rest fits.1 (sym (pred_is next (omega (arith, ands_some a))))
