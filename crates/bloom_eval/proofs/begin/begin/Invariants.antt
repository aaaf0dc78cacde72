-- the sets so far, and the turns of tables and ports
use Rattle.std.proofs.Common.{◌≡◌, ◌≤◌, ℕ, map}
use Rattle.std.specs.List.{range_with_len}
use Rattle.bloom_forms.specs.declared.module.Kind.TheVariants.{Input, Table}
use Rattle.bloom_forms.specs.Kinds.{place_in_kind}
use Rattle.bloom_forms.specs.Step.{set_at, begun_at}
use Rattle.bloom_eval.specs.Code.Held.{sets_in}
use Rattle.bloom_eval.specs.Begin.{AreLeft}
use Rattle.bloom_eval.proofs.begin.begin.Given as goal

abbrev pub invariant-loop-collection : goal.invariant-loop-collection
invariant-loop-collection l = record {
  tables : l.table ≡ place_in_kind Table l.collections l.collection-index;
  ports : l.port ≡ place_in_kind Input l.collections l.collection-index;
  begun : sets_in l.held.items ≡ map (begun_at l.collections l.initial.kept l.now) (range_with_len 0 l.collection-index);
  few_tables : l.table ≤ l.collection-index;
  few_ports : l.port ≤ l.collection-index;
  later : (k : ℕ) → l.table ≤ k → set_at l.kept k ≡ set_at l.initial.kept k;
  left : AreLeft l.initial.kept l.kept;
}
