use Rattle.std.proofs.Common.{◌≡◌, [], replicate}
use Rattle.sched_run.proofs.tables.unheard.Given as goal

abbrev pub invariant-loop : goal.invariant-loop
invariant-loop l = l.heard.items ≡ replicate l.counter (replicate l.streams [])
