-- what was found, and what the rest gives, are the whole
use Rattle.std.proofs.Common.{◌≡◌, ◌-◌, length}
use Rattle.bloom_parse.specs.Code.ReadingSingle.{has_comma, name_at}
use Rattle.bloom_parse.specs.Code.ReadingLists.{past, many_at, with_front, names_at}
use Rattle.bloom_parse.proofs.reading.lists.names.Given as goal

abbrev pub invariant-loop : goal.invariant-loop
invariant-loop l = with_front l.found.items (many_at has_comma (past name_at) (length l.terminals - l.counter) l.rest) ≡ names_at l.fn.first l.terminals
