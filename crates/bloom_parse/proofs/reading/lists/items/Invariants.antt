-- what was found, and what the rest gives, are the whole
use Rattle.std.proofs.Common.{◌≡◌, ◌-◌, length}
use Rattle.bloom_parse.specs.Code.ReadingSingle.{has_comma}
use Rattle.bloom_parse.specs.Code.ReadingLists.{item_at, past, many_at, with_front, items_at}
use Rattle.bloom_parse.proofs.reading.lists.items.Given as goal

abbrev pub invariant-loop : goal.invariant-loop
invariant-loop l = with_front l.found.items (many_at has_comma (past item_at) (length l.terminals - l.counter) l.rest) ≡ items_at l.fn.first l.terminals
