-- What each terminal is spelled as, and which terminals a text can have.
use Rattle.std.specs.Prelude.{◌≡◌, ◌≤◌, ℕ, true, List, [], ◌∷◌, Option, None, length, codes, FitsSigned}
use Rattle.std.specs.Fmt.{signed_decimal}
use Rattle.std.specs.Int.{w64}
use Rattle.std.specs.List.{find}
use Rattle.std.specs.Str.{IsUtf8, bytes_eq}
use Rattle.blz_value.specs.declared.test.Op.{Op}
use Rattle.blz_value.specs.declared.test.Op.TheVariants.{Eq, Ne, Lt, Le, Gt, Ge}
use Rattle.blz_value.specs.declared.value.Value.TheVariants as values
use Rattle.blz_value.specs.Name.{is_name}
use Rattle.blz_value.specs.Text.{value_text}
use Rattle.bloom_forms.specs.Query.{Name}
use Rattle.bloom_parse.specs.declared.lexing.terminal.Terminal.{Terminal}
use Rattle.bloom_parse.specs.declared.lexing.terminal.Terminal.TheVariants as terminals
use Rattle.bloom_parse.specs.declared.lexing.terminal.Word.{Word}
use Rattle.bloom_parse.specs.declared.lexing.terminal.Word.TheVariants as words
use Rattle.bloom_parse.specs.declared.lexing.terminal.Mark.{Mark}
use Rattle.bloom_parse.specs.declared.lexing.terminal.Mark.TheVariants as marks

-- the reserved words
abbrev pub all_words : List Word
all_words = words.Module ∷ words.Input ∷ words.Output ∷ words.Table ∷ words.Scratch ∷ words.Select ∷ words.Project ∷ words.Join ∷ words.NotIn ∷ words.Group ∷ words.AtLeast ∷ words.Count ∷ words.Sum ∷ words.Min ∷ words.Max ∷ words.As ∷ words.And ∷ words.Or ∷ words.Not ∷ []

abbrev pub word_bytes : Word → List ℕ
word_bytes words.Module = codes "module"
word_bytes words.Input = codes "input"
word_bytes words.Output = codes "output"
word_bytes words.Table = codes "table"
word_bytes words.Scratch = codes "scratch"
word_bytes words.Select = codes "select"
word_bytes words.Project = codes "project"
word_bytes words.Join = codes "join"
word_bytes words.NotIn = codes "notin"
word_bytes words.Group = codes "group"
word_bytes words.AtLeast = codes "atleast"
word_bytes words.Count = codes "count"
word_bytes words.Sum = codes "sum"
word_bytes words.Min = codes "min"
word_bytes words.Max = codes "max"
word_bytes words.As = codes "as"
word_bytes words.And = codes "and"
word_bytes words.Or = codes "or"
word_bytes words.Not = codes "not"

-- the reserved word that is spelled so
abbrev pub word_of : Name → Option Word
word_of name = find (λ w. bytes_eq name (word_bytes w)) all_words

abbrev pub mark_bytes : Mark → List ℕ
mark_bytes marks.Semicolon = codes ";"
mark_bytes marks.Comma = codes ","
mark_bytes marks.Open = codes "("
mark_bytes marks.Close = codes ")"
mark_bytes marks.OpenKeys = codes "["
mark_bytes marks.CloseKeys = codes "]"

abbrev pub op_bytes : Op → List ℕ
op_bytes Eq = codes "="
op_bytes Ne = codes "!="
op_bytes Lt = codes "<"
op_bytes Le = codes "<="
op_bytes Gt = codes ">"
op_bytes Ge = codes ">="

-- how a terminal is printed
abbrev pub spelled : Terminal → List ℕ
spelled (terminals.Name name) = name
spelled (terminals.Word w) = word_bytes w
spelled (terminals.Integer number) = signed_decimal number
spelled (terminals.Text text) = value_text (values.Text text)
spelled (terminals.Mark m) = mark_bytes m
spelled (terminals.Sign op) = op_bytes op
spelled terminals.End = []
spelled terminals.Bad = []

-- a text can have this terminal: a name that is no reserved word, an i64, a text in UTF-8 of at most 64 bytes, any word or mark
abbrev pub IsTerminal : Terminal → Type 0
IsTerminal (terminals.Name name) = (is_name name ≡ true) × (word_of name ≡ None)
IsTerminal (terminals.Word w) = Unit {0}
IsTerminal (terminals.Integer number) = FitsSigned w64 number
IsTerminal (terminals.Text text) = (length text ≤ 64) × IsUtf8 text
IsTerminal (terminals.Mark m) = Unit {0}
IsTerminal (terminals.Sign op) = Unit {0}
IsTerminal terminals.End = ⊥
IsTerminal terminals.Bad = ⊥
