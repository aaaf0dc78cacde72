-- Module texts, what begins one, and the first token that none has.
use Rattle.std.specs.Prelude.{ℕ, ◌≡◌, List, [], ◌∷◌, ◌++◌, length}
use Rattle.bloom_forms.specs.Form.{Form}
use Rattle.bloom_parse.specs.declared.lexing.terminal.Terminal.{Terminal}
use Rattle.bloom_parse.specs.declared.lexing.terminal.Terminal.TheVariants as terminals
use Rattle.bloom_parse.specs.Trees.{ModuleTree, ModuleFits, module_text, module_form}

-- the grammar gives these tokens, with the end of the text, and this module
pub record IsModuleText (ts : List Terminal) (m : Form) : Type 0 where
  pub tree : ModuleTree
  pub fits : ModuleFits tree
  pub text : module_text tree ++ terminals.End ∷ [] ≡ ts
  pub means : module_form tree ≡ m

-- some module text begins with these tokens
abbrev pub Begins : List Terminal → Type 0
Begins ts = (more : List Terminal) × (m : Form) × IsModuleText (ts ++ more) m

-- none goes on with the next token; behind the last token, none ends there
abbrev pub NoneGoesOn : List Terminal → List Terminal → Type 0
NoneGoesOn front [] = (m : Form) → IsModuleText front m → ⊥
NoneGoesOn front (t ∷ behind) = Begins (front ++ t ∷ []) → ⊥

-- the token with so many tokens from it on to the end is the first that no module text has there: what stands before it can still become a module text, and together with the token it can't
pub record IsFault (ts : List Terminal) (left : ℕ) : Type 0 where
  pub front : List Terminal
  pub behind : List Terminal
  pub parts : front ++ behind ≡ ts
  pub many : length behind ≡ left
  pub good : Begins front
  pub bad : NoneGoesOn front behind
