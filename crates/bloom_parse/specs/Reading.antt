-- What a text is read as: the module whose text it is, or the place of its first fault.
use Rattle.std.specs.Prelude.{◌≡◌, ℕ, zero, suc, false, List, [], ◌∷◌, length, Some, None, Result, Ok, Err}
use Rattle.bloom_forms.specs.declared.module.Module.{Module}
use Rattle.bloom_forms.specs.Form.{Form, form_of}
use Rattle.bloom_parse.specs.declared.lexing.terminal.Terminal.{Terminal}
use Rattle.bloom_parse.specs.declared.lexing.token.Token.{Token}
use Rattle.bloom_parse.specs.declared.refusal.ParseFault.{ParseFault}
use Rattle.bloom_parse.specs.declared.refusal.ParseFault.TheVariants.{Text, NoMemory}
use Rattle.bloom_parse.specs.declared.refusal.TextFault.{TextFault}
use Rattle.bloom_parse.specs.Code.ReadingModules.{module_at}
use Rattle.bloom_parse.specs.Tokens.{Front, front, behind_blanks, token_at, last_of, place_of, start_of}

-- the tokens of a text, their terminals with a last one, and what is left of the text at the last
pub record Lexed : Type 0 where
  pub tokens : List Token
  pub terminals : List Terminal
  pub rest : List ℕ

-- where no token begins
abbrev pub lexed_end : List ℕ → Lexed
lexed_end left = record { tokens = []; terminals = last_of left ∷ []; rest = left }

-- a token before those that come later
abbrev pub with_token : Token → Terminal → Lexed → Lexed
with_token token t later = record { tokens = token ∷ later.tokens; terminals = t ∷ later.terminals; rest = later.rest }

-- the token that was found at the front, and those that come later
abbrev pub lexed_found : ℕ → List ℕ → (List ℕ → Lexed) → Front → Lexed
lexed_found size left later None = lexed_end left
lexed_found size left later (Some found) = with_token (token_at size (length left) (length found.1) found.0) found.0 (later (behind_blanks false found.1))

-- what is left of a text of so many bytes, without blanks at its front, over at most so many tokens
abbrev pub lexed_left : ℕ → ℕ → List ℕ → Lexed
lexed_left size zero left = lexed_end left
lexed_left size (suc turns) left = lexed_found size left (lexed_left size turns) (front left)

-- the tokens of a text, of which there are no more than bytes
unfoldable pub lexed_of : List ℕ → Lexed
lexed_of text = lexed_left (length text) (length text) (behind_blanks false text)

-- a reading of the terminals of a text, where a fault is told by its place
abbrev pub at_place : List ℕ → Lexed → Result Form ℕ → Result Form TextFault
at_place text lexed (Ok m) = Ok m
at_place text lexed (Err left) = Err (place_of text (start_of (length text) lexed.tokens lexed.rest left))

-- the module of a text, or the place of its first fault
unfoldable pub reading_of : List ℕ → Result Form TextFault
reading_of text = at_place text (lexed_of text) (module_at (lexed_of text).terminals)

-- the answer is this reading, unless memory ran out
abbrev pub GivesReading : Result Form TextFault → Result Module ParseFault → Type 0
GivesReading reading (Ok read) = reading ≡ Ok (form_of read)
GivesReading reading (Err (Text fault)) = reading ≡ Err fault
GivesReading reading (Err NoMemory) = Unit {0}
