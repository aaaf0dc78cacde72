use Rattle.std.proofs.Common.{ℕ, List, ◌++◌, length}
use Rattle.bloom_parse.specs.declared.lexing.terminal.Terminal.{Terminal}
use Rattle.bloom_parse.specs.declared.lexing.token.Token.{Token}
use Rattle.bloom_parse.specs.Tokens.{Lexes, HasTokens}
use Rattle.bloom_parse.proofs.lexing.lexer.lexed.Given as goal

-- with the tokens of what is left, those so far are the tokens of the text
abbrev pub invariant-loop-terminals : goal.invariant-loop-terminals
invariant-loop-terminals l = (tokens : List Token) (ts : List Terminal) (rest : List ℕ) → Lexes (length l.fn.text) l.rest tokens ts rest → HasTokens l.fn.text (l.tokens.items ++ tokens) (l.terminals.items ++ ts) rest

abbrev pub decreases-loop-terminals : goal.decreases-loop-terminals
decreases-loop-terminals l = length l.rest
