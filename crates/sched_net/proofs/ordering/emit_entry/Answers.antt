use Rattle.std.proofs.Common.{◌<◌, ℕ, zero, suc, List, [], ◌∷◌, length, arith}
use Rattle.std.specs.List.{All}
use Rattle.blz_pool.specs.Entries.{EntryId}
use Rattle.blz_value.specs.Record.{Row}
use Rattle.sched_net.proofs.ordering.emit_entry.Goals as goal

-- the pool gave the id of a list of one
one_given : (records : List Row) (e : EntryId) → e.1 < length records → All (λ entry. entry.1 < length records) (e ∷ [])
one_given records e within zero d less = within
one_given records e within (suc k) d less = absurd (omega arith)

pub emit_entries_at-emitted-requires-clause-given : goal.emit_entries_at-emitted-requires-clause-given
emit_entries_at-emitted-requires-clause-given g c = one_given c.args.lists.now.records c.args.entry c.requires.given
