-- the sets of the ports so far
use Rattle.std.proofs.Common.{◌≡◌}
use Rattle.blz_pool.specs.Entries.{entries_with_ids}
use Rattle.bloom_eval.specs.Arrivals.{timestep_of}
use Rattle.bloom_eval.proofs.arriving.timestep.Given as goal

abbrev pub invariant-loop-port : goal.invariant-loop-port
invariant-loop-port l = l.sets.items ≡ timestep_of l.port (entries_with_ids l.pool l.entries)
