-- the rules so far gave their rows, and what is kept of the others is as it was
use Rattle.std.proofs.Common.{◌≡◌, ◌≤◌, ℕ, IsTrue, length}
use Rattle.std.specs.Prelude.{slice_get}
use Rattle.bloom_parts.specs.Turns.{rows_in}
use Rattle.bloom_index.specs.Code.Growth.{grows_at}
use Rattle.bloom_index.specs.Code.HeadRules.{CanTurn, HasOldHead}
use Rattle.bloom_index.proofs.HeadLoops.{IsGrowingAt}
use Rattle.bloom_index.proofs.heads.grow_head.Given as goal

abbrev pub invariant-loop-i : goal.invariant-loop-i
invariant-loop-i l = record {
  many : length l.plans.items ≡ length l.initial.plans.items;
  later : (k : ℕ) → l.i ≤ k → slice_get l.plans.items k ≡ slice_get l.initial.plans.items k;
  growing : (can : CanTurn l.rules l.head l.initial.plans.items l.held) → HasOldHead can.rules l.head l.initial.plans.items l.held can.ready l.initial.rows → IsTrue (grows_at can.ready.growing l.head)
      → IsGrowingAt can.rules l.head l.initial.plans.items l.held can.ready l.initial.rows l.rows (rows_in l.more) l.i l.plans.items;
}
