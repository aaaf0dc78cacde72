-- Terminals that stand in the shortest ways to complete a text.
use Rattle.std.specs.Prelude.{◌≡◌, pos, [], ◌∷◌}
use Rattle.bloom_parse.specs.declared.lexing.terminal.Terminal.{Terminal}
use Rattle.bloom_parse.specs.declared.lexing.terminal.Terminal.TheVariants as terminals

-- the name a, the integer 1, a word, a mark, a sign or the end
abbrev pub IsPlain : Terminal → Type 0
IsPlain (terminals.Name n) = n ≡ 97 ∷ []
IsPlain (terminals.Integer n) = n ≡ pos 1
IsPlain (terminals.Text t) = ⊥
IsPlain terminals.Bad = ⊥
IsPlain t = Unit {0}
