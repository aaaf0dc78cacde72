-- The tokens of terminals that are laid out as a text are these terminals.
use Rattle.std.proofs.Common.{◌≡◌, ℕ, ◌<◌, ◌^◌, true, false, ◌||◌, ◌==◌, List, [], ◌∷◌, ◌++◌, Some, length, refl, ap, ◌∙◌, sym, subst, arith, append_assoc}
use Rattle.std.specs.Prelude.{ℤ, pos, negsuc, FitsSigned}
use Rattle.std.specs.Int.{w64}
use Rattle.std.specs.Char.{is_ascii_digit}
use Rattle.std.specs.Fmt.{signed_decimal, decimal}
use Rattle.std.specs.List.{AllByRecursion, list_all}
use Rattle.std.proofs.lemmas.Bool.Decides.{nat_tests}
use Rattle.blz_value.specs.declared.test.Op.TheVariants.{Eq, Ne, Lt, Le, Gt, Ge}
use Rattle.blz_value.specs.Name.{is_name, is_name_start, is_name_byte}
use Rattle.bloom_parse.specs.declared.lexing.terminal.Terminal.{Terminal}
use Rattle.bloom_parse.specs.declared.lexing.terminal.Terminal.TheVariants as terminals
use Rattle.bloom_parse.specs.declared.lexing.terminal.Word.TheVariants as words
use Rattle.bloom_parse.specs.declared.lexing.terminal.Mark.TheVariants as marks
use Rattle.bloom_parse.specs.declared.lexing.token.Token.{Token}
use Rattle.bloom_parse.specs.Spelling.{spelled, IsTerminal}
use Rattle.bloom_parse.specs.Tokens.{front, is_white, behind_blanks, token_at, Lexes}
use Rattle.bloom_parse.specs.Layout.{before, behind, text_of}
use Rattle.bloom_parse.proofs.Texts.RunLemmas.{and_true}
use Rattle.bloom_parse.proofs.Texts.SpelledLemmas.{Stops, plain_name_again, word_again, number_again, text_again, decimal_digits, decimal_some}

-- ---- white space

blank_before : (t : Terminal) (rest : List ℕ) → behind_blanks false (before t ++ rest) ≡ behind_blanks false rest
blank_before (terminals.Name n) rest = refl
blank_before (terminals.Word words.Module) rest = refl
blank_before (terminals.Word words.Input) rest = refl
blank_before (terminals.Word words.Output) rest = refl
blank_before (terminals.Word words.Table) rest = refl
blank_before (terminals.Word words.Scratch) rest = refl
blank_before (terminals.Word words.Select) rest = refl
blank_before (terminals.Word words.Project) rest = refl
blank_before (terminals.Word words.Join) rest = refl
blank_before (terminals.Word words.NotIn) rest = refl
blank_before (terminals.Word words.Group) rest = refl
blank_before (terminals.Word words.AtLeast) rest = refl
blank_before (terminals.Word words.Count) rest = refl
blank_before (terminals.Word words.Sum) rest = refl
blank_before (terminals.Word words.Min) rest = refl
blank_before (terminals.Word words.Max) rest = refl
blank_before (terminals.Word words.As) rest = refl
blank_before (terminals.Word words.And) rest = refl
blank_before (terminals.Word words.Or) rest = refl
blank_before (terminals.Word words.Not) rest = refl
blank_before (terminals.Integer i) rest = refl
blank_before (terminals.Text t) rest = refl
blank_before (terminals.Mark m) rest = refl
blank_before (terminals.Sign op) rest = refl
blank_before terminals.End rest = refl
blank_before terminals.Bad rest = refl

blank_behind : (t : Terminal) (rest : List ℕ) → behind_blanks false (behind t ++ rest) ≡ behind_blanks false rest
blank_behind (terminals.Name n) rest = refl
blank_behind (terminals.Word words.Module) rest = refl
blank_behind (terminals.Word words.Input) rest = refl
blank_behind (terminals.Word words.Output) rest = refl
blank_behind (terminals.Word words.Table) rest = refl
blank_behind (terminals.Word words.Scratch) rest = refl
blank_behind (terminals.Word words.Select) rest = refl
blank_behind (terminals.Word words.Project) rest = refl
blank_behind (terminals.Word words.Join) rest = refl
blank_behind (terminals.Word words.NotIn) rest = refl
blank_behind (terminals.Word words.Group) rest = refl
blank_behind (terminals.Word words.AtLeast) rest = refl
blank_behind (terminals.Word words.Count) rest = refl
blank_behind (terminals.Word words.Sum) rest = refl
blank_behind (terminals.Word words.Min) rest = refl
blank_behind (terminals.Word words.Max) rest = refl
blank_behind (terminals.Word words.As) rest = refl
blank_behind (terminals.Word words.And) rest = refl
blank_behind (terminals.Word words.Or) rest = refl
blank_behind (terminals.Word words.Not) rest = refl
blank_behind (terminals.Integer i) rest = refl
blank_behind (terminals.Text t) rest = refl
blank_behind (terminals.Mark marks.Semicolon) rest = refl
blank_behind (terminals.Mark marks.Comma) rest = refl
blank_behind (terminals.Mark marks.Open) rest = refl
blank_behind (terminals.Mark marks.Close) rest = refl
blank_behind (terminals.Mark marks.OpenKeys) rest = refl
blank_behind (terminals.Mark marks.CloseKeys) rest = refl
blank_behind (terminals.Sign op) rest = refl
blank_behind terminals.End rest = refl
blank_behind terminals.Bad rest = refl

-- ---- no token begins with a blank

letter_solid : (b : ℕ) → is_name_start b ≡ true → false || (is_white b || b == 35) ≡ false
letter_solid b h = grind (arith, nat_tests)

digit_solid : (b : ℕ) → is_ascii_digit b ≡ true → false || (is_white b || b == 35) ≡ false
digit_solid b h = grind (arith, nat_tests)

name_solid : (name rest : List ℕ) → is_name name ≡ true → behind_blanks false (name ++ rest) ≡ name ++ rest
name_solid [] rest h = cc
name_solid (b ∷ bs) rest h = let first = and_true (is_name_start b) _ h in rw (letter_solid b first.0) refl

digits_solid : (ds rest : List ℕ) → list_all is_ascii_digit ds ≡ true → 0 < length ds → behind_blanks false (ds ++ rest) ≡ ds ++ rest
digits_solid [] rest h p = absurd (omega arith)
digits_solid (d ∷ ds) rest h p = let first = and_true (is_ascii_digit d) (list_all is_ascii_digit ds) h in rw (digit_solid d first.0) refl

number_solid : (i : ℤ) (rest : List ℕ) → FitsSigned w64 i → behind_blanks false (signed_decimal i ++ rest) ≡ signed_decimal i ++ rest
number_solid (pos n) rest fits = let small : n < 2 ^ 63 = fits.sfits in digits_solid (decimal n) rest (decimal_digits n (omega arith)) (decimal_some n (omega arith))
number_solid (negsuc n) rest fits = refl

solid : (t : Terminal) (rest : List ℕ) → IsTerminal t → behind_blanks false (spelled t ++ rest) ≡ spelled t ++ rest
solid (terminals.Name n) rest h = name_solid n rest h.0
solid (terminals.Word words.Module) rest h = refl
solid (terminals.Word words.Input) rest h = refl
solid (terminals.Word words.Output) rest h = refl
solid (terminals.Word words.Table) rest h = refl
solid (terminals.Word words.Scratch) rest h = refl
solid (terminals.Word words.Select) rest h = refl
solid (terminals.Word words.Project) rest h = refl
solid (terminals.Word words.Join) rest h = refl
solid (terminals.Word words.NotIn) rest h = refl
solid (terminals.Word words.Group) rest h = refl
solid (terminals.Word words.AtLeast) rest h = refl
solid (terminals.Word words.Count) rest h = refl
solid (terminals.Word words.Sum) rest h = refl
solid (terminals.Word words.Min) rest h = refl
solid (terminals.Word words.Max) rest h = refl
solid (terminals.Word words.As) rest h = refl
solid (terminals.Word words.And) rest h = refl
solid (terminals.Word words.Or) rest h = refl
solid (terminals.Word words.Not) rest h = refl
solid (terminals.Integer i) rest h = number_solid i rest h
solid (terminals.Text t) rest h = refl
solid (terminals.Mark marks.Semicolon) rest h = refl
solid (terminals.Mark marks.Comma) rest h = refl
solid (terminals.Mark marks.Open) rest h = refl
solid (terminals.Mark marks.Close) rest h = refl
solid (terminals.Mark marks.OpenKeys) rest h = refl
solid (terminals.Mark marks.CloseKeys) rest h = refl
solid (terminals.Sign Eq) rest h = refl
solid (terminals.Sign Ne) rest h = refl
solid (terminals.Sign Lt) rest h = refl
solid (terminals.Sign Le) rest h = refl
solid (terminals.Sign Gt) rest h = refl
solid (terminals.Sign Ge) rest h = refl
solid terminals.End rest h = elim h [ ]
solid terminals.Bad rest h = elim h [ ]

-- ---- each token is the longest

-- what stands behind a terminal doesn't go on with it
abbrev pub IsFree : Terminal → List ℕ → Type 0
IsFree (terminals.Name n) rest = Stops is_name_byte rest
IsFree (terminals.Word w) rest = Stops is_name_byte (behind (terminals.Word w) ++ rest)
IsFree (terminals.Integer i) rest = Stops is_name_byte rest
IsFree t rest = Unit {0}

no_digit : (b : ℕ) → is_name_byte b ≡ false → is_ascii_digit b ≡ false
no_digit b h = grind (arith, nat_tests)

stops_digits : (rest : List ℕ) → Stops is_name_byte rest → Stops is_ascii_digit rest
stops_digits [] s = tt
stops_digits (b ∷ rest) s = no_digit b s

terminal_again : (t : Terminal) (rest : List ℕ) → IsTerminal t → IsFree t rest → front (spelled t ++ (behind t ++ rest)) ≡ Some (t, behind t ++ rest)
unfolding front
terminal_again (terminals.Name n) rest h s = plain_name_again n rest h.0 h.1 s
terminal_again (terminals.Word w) rest h s = word_again w (behind (terminals.Word w) ++ rest) s
terminal_again (terminals.Integer i) rest h s = number_again i rest h (stops_digits rest s)
terminal_again (terminals.Text t) rest h s = text_again t rest h.0 h.1
terminal_again (terminals.Mark marks.Semicolon) rest h s = refl
terminal_again (terminals.Mark marks.Comma) rest h s = refl
terminal_again (terminals.Mark marks.Open) rest h s = refl
terminal_again (terminals.Mark marks.Close) rest h s = refl
terminal_again (terminals.Mark marks.OpenKeys) rest h s = refl
terminal_again (terminals.Mark marks.CloseKeys) rest h s = refl
terminal_again (terminals.Sign Eq) rest h s = refl
terminal_again (terminals.Sign Ne) rest h s = refl
terminal_again (terminals.Sign Lt) rest h s = refl
terminal_again (terminals.Sign Le) rest h s = refl
terminal_again (terminals.Sign Gt) rest h s = refl
terminal_again (terminals.Sign Ge) rest h s = refl
terminal_again terminals.End rest h s = elim h [ ]
terminal_again terminals.Bad rest h s = elim h [ ]

-- ---- all of them

-- each terminal is one that a text can have, and none goes on with the next
abbrev pub AreApart : List Terminal → Type 0
AreApart [] = Unit {0}
AreApart (t ∷ ts) = IsFree t (text_of ts) × AreApart ts

left_of : (t : Terminal) (ts : List Terminal) → IsTerminal t → behind_blanks false (text_of (t ∷ ts)) ≡ spelled t ++ (behind t ++ text_of ts)
left_of t ts h =
    ap (behind_blanks false) (append_assoc (before t) (spelled t ++ behind t) (text_of ts))
    ∙ blank_before t ((spelled t ++ behind t) ++ text_of ts)
    ∙ ap (behind_blanks false) (append_assoc (spelled t) (behind t) (text_of ts))
    ∙ solid t (behind t ++ text_of ts) h

pub lexes_laid : (size : ℕ) (ts : List Terminal) → AllByRecursion IsTerminal ts → AreApart ts → (tokens : List Token) × Lexes size (behind_blanks false (text_of ts)) tokens (ts ++ terminals.End ∷ []) []
unfolding front
lexes_laid size [] h a = ([], (refl, refl, refl))
lexes_laid size (t ∷ ts) h a =
    let more = lexes_laid size ts h.1 a.1 in
    let left = behind_blanks false (text_of (t ∷ ts)) in
    let after = behind t ++ text_of ts in
    let found : front left ≡ Some (t, after) = ap front (left_of t ts h.0) ∙ terminal_again t (text_of ts) h.0 a.0 in (
      token_at size (length left) (length after) t ∷ more.0,
      (after, found, refl, subst (λ (xs : List ℕ). Lexes size xs more.0 (ts ++ terminals.End ∷ []) []) (sym (blank_behind t (text_of ts))) more.1),
    )
