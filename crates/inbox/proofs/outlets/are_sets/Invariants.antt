use Rattle.std.proofs.Common.{◌<◌, ℕ, List}
use Rattle.blz_value.specs.Record.{Row}
use Rattle.blz_value.specs.Sets.{IsRowSet}
use Rattle.bloom_eval.specs.Puts.{puts_in}
use Rattle.bloom_forms.specs.Step.{set_at}
use Rattle.inbox.proofs.outlets.are_sets.Given as goal

abbrev pub invariant-loop-put : goal.invariant-loop-put
invariant-loop-put l = (records : List Row) (k : ℕ) → k < l.put-index → IsRowSet (set_at (puts_in records l.puts) k)
