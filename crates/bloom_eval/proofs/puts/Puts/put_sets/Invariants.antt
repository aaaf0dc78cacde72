-- so far each set stands for itself
use Rattle.std.proofs.Common.{◌≡◌, ◌++◌, List}
use Rattle.blz_value.specs.Record.{Row}
use Rattle.blz_pool.specs.Entries.{EntryId}
use Rattle.bloom_eval.specs.Puts.{ArePutOf, puts_in}
use Rattle.bloom_eval.proofs.puts.Puts.put_sets.Given as goal

abbrev pub invariant-loop-set : goal.invariant-loop-set
invariant-loop-set l = record {
  rows : (records : List Row) → puts_in records l.self ++ l.set-iterator.rest.items ≡ l.fn.outs;
  ids : (entries : List EntryId) → ArePutOf entries l.self;
}
