-- Reading single terminals. A fault is the number of terminals that are left at it.
use Rattle.std.specs.Prelude.{◌≡◌, ℕ, ℤ, pos, int_le, List, [], ◌∷◌, length, Result, Ok, Err, Bool, true, false, if◌then◌else◌}
use Rattle.blz_value.specs.declared.test.Op.{Op}
use Rattle.blz_value.specs.declared.test.Op.TheVariants.{Eq, Le}
use Rattle.blz_value.specs.declared.value.Value.TheVariants.{Int, Text}
use Rattle.bloom_forms.specs.declared.expr.Term.{Term}
use Rattle.bloom_forms.specs.declared.expr.Term.TheVariants.{Column, Literal}
use Rattle.bloom_forms.specs.Query.{Name}
use Rattle.bloom_parse.specs.declared.lexing.terminal.Terminal.{Terminal}
use Rattle.bloom_parse.specs.declared.lexing.terminal.Terminal.TheVariants as terminals
use Rattle.bloom_parse.specs.declared.lexing.terminal.Word.TheVariants as words
use Rattle.bloom_parse.specs.declared.lexing.terminal.Mark.{Mark}
use Rattle.bloom_parse.specs.declared.lexing.terminal.Mark.TheVariants as marks
use Rattle.bloom_parse.specs.declared.reading.read_fault.ReadFault.{ReadFault}
use Rattle.bloom_parse.specs.declared.reading.read_fault.ReadFault.TheVariants as faults
use Rattle.bloom_parse.specs.Code.Marks.{is_same_mark}

infixl 10 ◌>>=◌
-- what comes behind a reading, or its fault
abbrev pub ◌>>=◌ : {A B : Type 0} → Result A ℕ → (A → Result B ℕ) → Result B ℕ
(Ok x) >>= f = f x
(Err e) >>= f = Err e

-- a fault is the one that reading gives, unless memory ran out
abbrev pub Fails : {Y : Type 0} → ReadFault → Result Y ℕ → Type 0
Fails faults.NoMemory read = Unit {0}
Fails (faults.Left n) read = read ≡ Err n

-- what a function returned, seen by view, is what reading gives, unless memory ran out
abbrev pub Gives : {X Y : Type 0} → (X → Y) → Result X ReadFault → Result Y ℕ → Type 0
Gives view (Ok x) read = read ≡ Ok (view x)
Gives view (Err e) read = Fails e read

-- this mark: what is behind it
abbrev pub mark_at : Mark → List Terminal → Result (List Terminal) ℕ
mark_at m [] = Err 0
mark_at m (terminals.Mark n ∷ rest) = if is_same_mark m n then Ok rest else Err (length (terminals.Mark n ∷ rest))
mark_at m (t ∷ rest) = Err (length (t ∷ rest))

-- a name, and what is behind it
abbrev pub name_at : List Terminal → Result (Name × List Terminal) ℕ
name_at [] = Err 0
name_at (terminals.Name n ∷ rest) = Ok (n, rest)
name_at (t ∷ rest) = Err (length (t ∷ rest))

-- one side of a comparison, and what is behind it
abbrev pub operand_at : List Terminal → Result (Term × List Terminal) ℕ
operand_at [] = Err 0
operand_at (terminals.Name n ∷ rest) = Ok (Column n, rest)
operand_at (terminals.Integer i ∷ rest) = Ok (Literal (Int i), rest)
operand_at (terminals.Text t ∷ rest) = Ok (Literal (Text t), rest)
operand_at (t ∷ rest) = Err (length (t ∷ rest))

-- how two sides compare, and what is behind it
abbrev pub sign_at : List Terminal → Result (Op × List Terminal) ℕ
sign_at [] = Err 0
sign_at (terminals.Sign o ∷ rest) = Ok (o, rest)
sign_at (t ∷ rest) = Err (length (t ∷ rest))

-- =
abbrev pub equals_at : List Terminal → Result (List Terminal) ℕ
equals_at [] = Err 0
equals_at (terminals.Sign Eq ∷ rest) = Ok rest
equals_at (t ∷ rest) = Err (length (t ∷ rest))

-- <=
abbrev pub arrow_at : List Terminal → Result (List Terminal) ℕ
arrow_at [] = Err 0
arrow_at (terminals.Sign Le ∷ rest) = Ok rest
arrow_at (t ∷ rest) = Err (length (t ∷ rest))

-- the word as
abbrev pub as_at : List Terminal → Result (List Terminal) ℕ
as_at [] = Err 0
as_at (terminals.Word words.As ∷ rest) = Ok rest
as_at (t ∷ rest) = Err (length (t ∷ rest))

-- the word module
abbrev pub module_word_at : List Terminal → Result (List Terminal) ℕ
module_word_at [] = Err 0
module_word_at (terminals.Word words.Module ∷ rest) = Ok rest
module_word_at (t ∷ rest) = Err (length (t ∷ rest))

-- an integer that is 1 or more
abbrev pub bound_at : List Terminal → Result (ℤ × List Terminal) ℕ
bound_at [] = Err 0
bound_at (terminals.Integer n ∷ rest) = if int_le (pos 1) n then Ok (n, rest) else Err (length (terminals.Integer n ∷ rest))
bound_at (t ∷ rest) = Err (length (t ∷ rest))

-- whether a comma comes first
abbrev pub has_comma : List Terminal → Bool
has_comma (terminals.Mark marks.Comma ∷ rest) = true
has_comma ts = false

-- whether ] comes first
abbrev pub has_close_keys : List Terminal → Bool
has_close_keys (terminals.Mark marks.CloseKeys ∷ rest) = true
has_close_keys ts = false

-- whether as comes first
abbrev pub has_as : List Terminal → Bool
has_as (terminals.Word words.As ∷ rest) = true
has_as ts = false

-- whether a name comes first
abbrev pub has_name : List Terminal → Bool
has_name (terminals.Name n ∷ rest) = true
has_name ts = false
