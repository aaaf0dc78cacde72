use Rattle.std.proofs.Common.{◌≡◌, length, false}
use Rattle.bloom_parse.specs.Tokens.{behind_blanks}
use Rattle.bloom_parse.proofs.lexing.front.behind_blanks.Given as goal

-- what is left has the same behind its blanks as the whole
abbrev pub invariant-loop-rest : goal.invariant-loop-rest
invariant-loop-rest l = behind_blanks l.within l.rest ≡ behind_blanks false l.fn.text

abbrev pub decreases-loop-rest : goal.decreases-loop-rest
decreases-loop-rest l = length l.rest
