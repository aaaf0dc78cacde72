-- what was found, and what the rest gives, are the whole
use Rattle.std.proofs.Common.{◌≡◌, ◌-◌, length}
use Rattle.bloom_parse.specs.Code.ReadingLists.{many_at, with_front}
use Rattle.bloom_parse.specs.Code.ReadingModules.{has_kind, collection_at, collections_at}
use Rattle.bloom_parse.proofs.reading.reader.collections.Given as goal

abbrev pub invariant-loop : goal.invariant-loop
invariant-loop l = with_front l.found.items (many_at has_kind collection_at (length l.terminals - l.counter) l.rest) ≡ collections_at l.terminals
