-- the records at the port so far
use Rattle.std.proofs.Common.{◌≡◌, ◌==◌, map, filter, take}
use Rattle.blz_pool.specs.Entries.{entries_with_ids}
use Rattle.bloom_eval.proofs.arriving.rows_at.Given as goal

abbrev pub invariant-loop-entry : goal.invariant-loop-entry
invariant-loop-entry l = l.rows.items ≡ map (λ entry. entry.1) (filter (λ entry. entry.0 == l.port) (entries_with_ids l.pool (take l.entry-index l.entries)))
