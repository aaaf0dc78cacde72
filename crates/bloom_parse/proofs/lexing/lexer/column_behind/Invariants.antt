use Rattle.std.proofs.Common.{◌≡◌, ◌≤◌, ◌+◌, take}
use Rattle.bloom_parse.specs.Tokens.{column_behind}
use Rattle.bloom_parse.proofs.lexing.lexer.column_behind.Given as goal

-- the column behind the bytes so far
abbrev pub invariant-loop-byte : goal.invariant-loop-byte
invariant-loop-byte l = record {
  column : l.column ≡ column_behind (take l.byte-index l.bytes);
  small : l.column ≤ l.byte-index + 1;
}
