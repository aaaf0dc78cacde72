-- What reading the terminals of a text says of the text.
use Rattle.std.proofs.Common.{◌≡◌, refl, sym, subst, ℕ, List, Result, Ok, Err}
use Rattle.bloom_forms.specs.Form.{Form}
use Rattle.bloom_parse.specs.declared.lexing.terminal.Terminal.{Terminal}
use Rattle.bloom_parse.specs.declared.lexing.token.Token.{Token}
use Rattle.bloom_parse.specs.Parsing.{IsTextOf}
use Rattle.bloom_parse.specs.Places.{IsModuleText}
use Rattle.bloom_parse.specs.Tokens.{HasTokens}
use Rattle.bloom_parse.specs.Code.ReadingSingle.{Fails}
use Rattle.bloom_parse.specs.declared.reading.read_fault.ReadFault.{ReadFault}
use Rattle.bloom_parse.specs.declared.reading.read_fault.ReadFault.TheVariants.{Left}
use Rattle.bloom_parse.proofs.Texts.TokensLemmas.{one_list}

-- a text of a module has terminals that are a text of it
pub text_is : (text : List ℕ) (tokens : List Token) (ts : List Terminal) (rest : List ℕ) (m : Form) → HasTokens text tokens ts rest → IsTextOf text m → IsModuleText ts m
text_is text tokens ts rest m has is = subst (λ us. IsModuleText us m) (sym (one_list _ _ tokens is.1.0 ts is.0 rest is.1.1 has is.1.2).1) is.2

-- the answer is this module
abbrev pub Reads : Form → Result Form ℕ → Type 0
Reads m (Ok read) = read ≡ m
Reads m (Err left) = ⊥

pub reads_ok : (m : Form) (answer : Result Form ℕ) → Ok m ≡ answer → Reads m answer
reads_ok m answer same = subst (Reads m) same refl

-- a text of a module has no first fault
pub no_fault : (m : Form) (fault : ReadFault) (left : ℕ) → fault ≡ Left left → Fails fault (Ok m) → ⊥
no_fault m fault left is fails = reads_ok m (Err left) (subst (λ f. Fails f (Ok m)) is fails)
