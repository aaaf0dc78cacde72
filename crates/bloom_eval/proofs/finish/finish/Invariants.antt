-- the sets so far, and those of the collections that are left
use Rattle.std.proofs.Common.{◌≡◌, ◌≤◌, ◌++◌, ℕ, length, drop}
use Rattle.bloom_forms.specs.declared.module.Kind.TheVariants.{Output, Table}
use Rattle.bloom_forms.specs.Step.{set_at, sets_of_kind}
use Rattle.bloom_eval.specs.Code.Held.{sets_in}
use Rattle.bloom_eval.proofs.finish.finish.Given as goal

abbrev pub invariant-loop-i : goal.invariant-loop-i
invariant-loop-i l = record {
  many : length l.held.items ≡ length l.collections;
  later : (k : ℕ) → l.i ≤ k → set_at (sets_in l.held.items) k ≡ set_at (sets_in l.initial.held.items) k;
  tables : l.tables.items ++ sets_of_kind Table (drop l.i l.collections) (drop l.i (sets_in l.initial.held.items)) ≡ sets_of_kind Table l.collections (sets_in l.initial.held.items);
  outs : l.outs.items ++ sets_of_kind Output (drop l.i l.collections) (drop l.i (sets_in l.initial.held.items)) ≡ sets_of_kind Output l.collections (sets_in l.initial.held.items);
}
