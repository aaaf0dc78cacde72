use Rattle.std.proofs.Common.{◌≡◌, ◌-◌}
use Rattle.bloom_parse.specs.Tokens.{bytes_front, with_bytes}
use Rattle.bloom_parse.proofs.lexing.front.bytes_front.Given as goal

-- the bytes so far and those of what is left are those of the whole
abbrev pub invariant-loop : goal.invariant-loop
invariant-loop l = with_bytes l.bytes.items (bytes_front (64 - l.counter) l.rest) ≡ bytes_front 64 l.fn.text
