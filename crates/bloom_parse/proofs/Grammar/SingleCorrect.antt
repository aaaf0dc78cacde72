-- What single tokens read, and where the machine stops.
use Rattle.std.proofs.Common.{◌≡◌, ℕ, zero, suc, Bool, true, false, cond, List, [], ◌∷◌, length, Option, Some, None, Result, Ok, Err, refl, sym, ap, ◌∙◌, arith}
use Rattle.std.proofs.lemmas.Bool.{eqb-true}
use Rattle.bloom_forms.specs.declared.expr.Term.{Term}
use Rattle.std.specs.Prelude.{ℤ, pos, ◌≤ℤ◌, int_le}
use Rattle.std.proofs.lemmas.Int.{ints}
use Rattle.blz_value.specs.declared.test.Op.{Op}
use Rattle.blz_value.specs.declared.test.Op.TheVariants.{Eq, Le}
use Rattle.bloom_parse.specs.declared.lexing.terminal.Word.TheVariants as words
use Rattle.bloom_forms.specs.Query.{Name}
use Rattle.bloom_parse.specs.declared.lexing.terminal.Terminal.{Terminal}
use Rattle.bloom_parse.specs.declared.lexing.terminal.Terminal.TheVariants as terminals
use Rattle.bloom_parse.specs.declared.lexing.terminal.Mark.{Mark}
use Rattle.bloom_parse.specs.declared.lexing.terminal.Mark.TheVariants.{Semicolon, Comma, Open, Close, OpenKeys, CloseKeys}
use Rattle.bloom_parse.specs.Code.Marks.{mark_number, is_same_mark}
use Rattle.bloom_parse.specs.Trees.{mark, term_token}
use Rattle.bloom_parse.specs.Code.ReadingSingle.{◌>>=◌, mark_at, name_at, operand_at, sign_at, equals_at, arrow_at, as_at, module_word_at, bound_at}
use Rattle.bloom_parse.proofs.Machine.Machine.{Sym, State, run}

-- what holds of each outcome of a step holds of what comes of it
pub bind_reads : {A B : Type 0} (P : Result A ℕ → Type 0) (G : Result B ℕ → Type 0) (f : A → Result B ℕ) (r : Result A ℕ) → P r → ((x : A) → P (Ok x) → G (f x)) → ((n : ℕ) → P (Err n) → G (Err n)) → G (r >>= f)
bind_reads P G f (Ok x) p ok err = ok x p
bind_reads P G f (Err n) p ok err = err n p

mark_of : ℕ → Mark
mark_of zero = Semicolon
mark_of (suc zero) = Comma
mark_of (suc (suc zero)) = Open
mark_of (suc (suc (suc zero))) = Close
mark_of (suc (suc (suc (suc zero)))) = OpenKeys
mark_of (suc (suc (suc (suc (suc n))))) = CloseKeys

mark_back : (m : Mark) → mark_of (mark_number m) ≡ m
unfolding mark_of
mark_back Semicolon = refl
mark_back Comma = refl
mark_back Open = refl
mark_back Close = refl
mark_back OpenKeys = refl
mark_back CloseKeys = refl

same_mark : (m n : Mark) → is_same_mark m n ≡ true → m ≡ n
same_mark m n e = sym (mark_back m) ∙ ap mark_of (eqb-true (mark_number m) (mark_number n) e) ∙ mark_back n

-- the machine stops with so many tokens left, whatever is to come behind
abbrev pub Stuck : (List Sym → List Sym) → List Terminal → ℕ → Type 0
Stuck syms ts n = (k : ℕ) (st : List Sym) → run k (syms st) ts ≡ Err n

abbrev pub ReadsMark : Mark → List Terminal → Result (List Terminal) ℕ → Type 0
ReadsMark m ts (Ok rest) = mark m ∷ rest ≡ ts
ReadsMark m ts (Err n) = Stuck (λ st. Sym.mark m ∷ st) ts n

mark_cases : (m n : Mark) (rest : List Terminal) (b : Bool) → is_same_mark m n ≡ b → ReadsMark m (mark n ∷ rest) (cond b (Ok rest) (Err (length (mark n ∷ rest))))
mark_cases m n rest true e = ap (λ x. mark x ∷ rest) (same_mark m n e)
mark_cases m n rest false e = λ k st. ap (λ (b : Bool). elim (cond {A = Option State} b (Some (k, st)) None) as (λ s. Result State ℕ) [ None ↦ Err (length (mark n ∷ rest)) | Some s ↦ run s.0 s.1 rest ]) e

pub mark_reads : (m : Mark) (ts : List Terminal) → ReadsMark m ts (mark_at m ts)
mark_reads m [] = λ k st. refl
mark_reads m (terminals.Mark n ∷ rest) = mark_cases m n rest (is_same_mark m n) refl
mark_reads m (t ∷ rest) = λ k st. refl

abbrev pub ReadsName : List Terminal → Result (Name × List Terminal) ℕ → Type 0
ReadsName ts (Ok x) = terminals.Name x.0 ∷ x.1 ≡ ts
ReadsName ts (Err n) = Stuck (λ st. Sym.a_name ∷ st) ts n

pub name_reads : (ts : List Terminal) → ReadsName ts (name_at ts)
name_reads [] = λ k st. refl
name_reads (terminals.Name n ∷ rest) = refl
name_reads (t ∷ rest) = λ k st. refl

abbrev pub ReadsSign : List Terminal → Result (Op × List Terminal) ℕ → Type 0
ReadsSign ts (Ok x) = terminals.Sign x.0 ∷ x.1 ≡ ts
ReadsSign ts (Err n) = Stuck (λ st. Sym.a_sign ∷ st) ts n

pub sign_reads : (ts : List Terminal) → ReadsSign ts (sign_at ts)
sign_reads [] = λ k st. refl
sign_reads (terminals.Sign n ∷ rest) = refl
sign_reads (t ∷ rest) = λ k st. refl

abbrev pub ReadsOperand : List Terminal → Result (Term × List Terminal) ℕ → Type 0
ReadsOperand ts (Ok x) = term_token x.0 ∷ x.1 ≡ ts
ReadsOperand ts (Err n) = Stuck (λ st. Sym.an_operand ∷ st) ts n

pub operand_reads : (ts : List Terminal) → ReadsOperand ts (operand_at ts)
operand_reads [] = λ k st. refl
operand_reads (terminals.Name n ∷ rest) = refl
operand_reads (terminals.Integer n ∷ rest) = refl
operand_reads (terminals.Text n ∷ rest) = refl
operand_reads (t ∷ rest) = λ k st. refl

abbrev pub ReadsEquals : List Terminal → Result (List Terminal) ℕ → Type 0
ReadsEquals ts (Ok rest) = terminals.Sign Eq ∷ rest ≡ ts
ReadsEquals ts (Err n) = Stuck (λ st. Sym.equals ∷ st) ts n

pub equals_reads : (ts : List Terminal) → ReadsEquals ts (equals_at ts)
equals_reads [] = λ k st. refl
equals_reads (terminals.Sign Eq ∷ rest) = refl
equals_reads (t ∷ rest) = λ k st. refl

abbrev pub ReadsArrow : List Terminal → Result (List Terminal) ℕ → Type 0
ReadsArrow ts (Ok rest) = terminals.Sign Le ∷ rest ≡ ts
ReadsArrow ts (Err n) = Stuck (λ st. Sym.arrow ∷ st) ts n

pub arrow_reads : (ts : List Terminal) → ReadsArrow ts (arrow_at ts)
arrow_reads [] = λ k st. refl
arrow_reads (terminals.Sign Le ∷ rest) = refl
arrow_reads (t ∷ rest) = λ k st. refl

abbrev pub ReadsAs : List Terminal → Result (List Terminal) ℕ → Type 0
ReadsAs ts (Ok rest) = terminals.Word words.As ∷ rest ≡ ts
ReadsAs ts (Err n) = Stuck (λ st. Sym.the_as ∷ st) ts n

pub as_reads : (ts : List Terminal) → ReadsAs ts (as_at ts)
as_reads [] = λ k st. refl
as_reads (terminals.Word words.As ∷ rest) = refl
as_reads (t ∷ rest) = λ k st. refl

abbrev pub ReadsModuleWord : List Terminal → Result (List Terminal) ℕ → Type 0
ReadsModuleWord ts (Ok rest) = terminals.Word words.Module ∷ rest ≡ ts
ReadsModuleWord ts (Err n) = Stuck (λ st. Sym.the_module ∷ st) ts n

pub module_word_reads : (ts : List Terminal) → ReadsModuleWord ts (module_word_at ts)
module_word_reads [] = λ k st. refl
module_word_reads (terminals.Word words.Module ∷ rest) = refl
module_word_reads (t ∷ rest) = λ k st. refl

-- a bound that was read, and that it is one
abbrev pub ReadsBound : List Terminal → Result (ℤ × List Terminal) ℕ → Type 0
ReadsBound ts (Ok x) = (terminals.Integer x.0 ∷ x.1 ≡ ts) × (pos 1 ≤ℤ x.0)
ReadsBound ts (Err n) = Stuck (λ st. Sym.a_bound ∷ st) ts n

bound_cases : (n : ℤ) (rest : List Terminal) (b : Bool) → int_le (pos 1) n ≡ b → ReadsBound (terminals.Integer n ∷ rest) (cond b (Ok (n, rest)) (Err (length (terminals.Integer n ∷ rest))))
bound_cases n rest true e = (refl, omega (arith, ints))
bound_cases n rest false e = λ k st. ap (λ (b : Bool). elim (cond {A = Option State} b (Some (k, st)) None) as (λ s. Result State ℕ) [ None ↦ Err (length (terminals.Integer n ∷ rest)) | Some s ↦ run s.0 s.1 rest ]) e

pub bound_reads : (ts : List Terminal) → ReadsBound ts (bound_at ts)
bound_reads [] = λ k st. refl
bound_reads (terminals.Integer n ∷ rest) = bound_cases n rest (int_le (pos 1) n) refl
bound_reads (t ∷ rest) = λ k st. refl

-- the machine takes a bound
bound_stepped : (n : ℤ) (k : ℕ) (st : List Sym) (rest : List Terminal) (b : Bool) → int_le (pos 1) n ≡ b → pos 1 ≤ℤ n → elim (cond {A = Option State} b (Some (k, st)) None) as (λ s. Result State ℕ) [ None ↦ Err (length (terminals.Integer n ∷ rest)) | Some s ↦ run s.0 s.1 rest ] ≡ run k st rest
bound_stepped n k st rest true e le = refl
bound_stepped n k st rest false e le = absurd (omega (arith, ints))

pub bound_goes : (ts : List Terminal) (x : ℤ × List Terminal) → ReadsBound ts (Ok x) → (k : ℕ) (st : List Sym) → run k (Sym.a_bound ∷ st) ts ≡ run k st x.1
bound_goes ts x h k st = ap (λ (t : List Terminal). run k (Sym.a_bound ∷ st) t) (sym h.0) ∙ bound_stepped x.0 k st x.1 (int_le (pos 1) x.0) refl h.1

-- a bound is read again
bound_taken : (n : ℤ) (rest : List Terminal) (b : Bool) → int_le (pos 1) n ≡ b → pos 1 ≤ℤ n → cond {A = Result (ℤ × List Terminal) ℕ} b (Ok (n, rest)) (Err (length (terminals.Integer n ∷ rest))) ≡ Ok (n, rest)
bound_taken n rest true e le = refl
bound_taken n rest false e le = absurd (omega (arith, ints))

pub bound_again : (n : ℤ) (rest : List Terminal) → pos 1 ≤ℤ n → bound_at (terminals.Integer n ∷ rest) ≡ Ok (n, rest)
bound_again n rest le = bound_taken n rest (int_le (pos 1) n) refl le
