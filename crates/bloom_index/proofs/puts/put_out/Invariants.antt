-- what is put out so far, and the outputs of the collections that are left
use Rattle.std.proofs.Common.{◌≡◌, ◌≤◌, ◌++◌, ℕ, length, drop}
use Rattle.bloom_forms.specs.declared.module.Kind.TheVariants.{Output}
use Rattle.bloom_forms.specs.Step.{set_at, sets_of_kind}
use Rattle.bloom_eval.specs.Puts.{puts_in, ArePutOf}
use Rattle.bloom_index.specs.Code.StepSets.{held_sets}
use Rattle.bloom_index.proofs.puts.put_out.Given as goal

abbrev pub invariant-loop-i : goal.invariant-loop-i
invariant-loop-i l = record {
  many : length l.held.items ≡ length l.collections;
  later : (k : ℕ) → l.i ≤ k → set_at (held_sets l.held.items) k ≡ set_at (held_sets l.initial.held.items) k;
  outs : puts_in l.pool l.puts ++ sets_of_kind Output (drop l.i l.collections) (drop l.i (held_sets l.initial.held.items)) ≡ sets_of_kind Output l.collections (held_sets l.initial.held.items);
  ids : ArePutOf l.entries l.puts;
}
