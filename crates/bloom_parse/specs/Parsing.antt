-- Which module a text is of, and where it has the first fault.
use Rattle.std.specs.Prelude.{◌≡◌, ℕ, List, length, Result, Ok, Err}
use Rattle.bloom_forms.specs.declared.module.Module.{Module}
use Rattle.bloom_forms.specs.Form.{Form, form_of}
use Rattle.bloom_parse.specs.declared.refusal.ParseFault.{ParseFault}
use Rattle.bloom_parse.specs.declared.refusal.ParseFault.TheVariants.{Text, NoMemory}
use Rattle.bloom_parse.specs.declared.refusal.TextFault.{TextFault}
use Rattle.bloom_parse.specs.declared.lexing.terminal.Terminal.{Terminal}
use Rattle.bloom_parse.specs.declared.lexing.token.Token.{Token}
use Rattle.bloom_parse.specs.Places.{IsModuleText, IsFault}
use Rattle.bloom_parse.specs.Tokens.{HasTokens, AreTerminals, place_of, start_of}

-- the text is one of this module
abbrev pub IsTextOf : List ℕ → Form → Type 0
IsTextOf text m = (ts : List Terminal) × AreTerminals text ts × IsModuleText ts m

-- the first token, or end, that no module text has there stands here
abbrev pub IsFirstFault : List ℕ → TextFault → Type 0
IsFirstFault text fault = (tokens : List Token) × (ts : List Terminal) × (rest : List ℕ) × (left : ℕ)
    × HasTokens text tokens ts rest × IsFault ts left × (fault ≡ place_of text (start_of (length text) tokens rest left))

-- a fault that is none of memory is the first
abbrev pub IsParseFault : List ℕ → ParseFault → Type 0
IsParseFault text (Text fault) = IsFirstFault text fault
IsParseFault text NoMemory = Unit {0}

-- the answer is this module, unless memory ran out
abbrev pub GivesModule : Form → Result Module ParseFault → Type 0
GivesModule m (Ok read) = form_of read ≡ m
GivesModule m (Err (Text fault)) = ⊥
GivesModule m (Err NoMemory) = Unit {0}
