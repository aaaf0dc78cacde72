-- the collections so far, and the port whose turn it is
use Rattle.std.proofs.Common.{◌≡◌, ◌<◌, ◌≤◌, ℕ, length}
use Rattle.blz_set.specs.RecordSet.{IsRecordSet}
use Rattle.bloom_forms.specs.declared.module.Kind.TheVariants.{Input}
use Rattle.bloom_forms.specs.Kinds.{place_in_kind}
use Rattle.bloom_forms.specs.Step.{set_at}
use Rattle.bloom_index.specs.Code.Arriving.{arrived_in}
use Rattle.bloom_index.specs.Code.StepSets.{AreBegunAt}
use Rattle.bloom_index.proofs.step.begin.Given as goal

abbrev pub invariant-loop-i : goal.invariant-loop-i
invariant-loop-i l = record {
  port : l.port ≡ place_in_kind Input l.collections l.i;
  few : l.port ≤ l.i;
  within : l.i ≤ length l.collections;
  begun : AreBegunAt l.collections l.parts.lasting.items (arrived_in l.now) l.i l.held.items;
  sets : (k : ℕ) → k < l.i → IsRecordSet (set_at l.parts.rows.items k);
}
