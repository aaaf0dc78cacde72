-- the rules so far were evaluated, and what is kept of the others is as it was
use Rattle.std.proofs.Common.{◌≡◌, ◌≤◌, ℕ, length}
use Rattle.std.specs.Prelude.{slice_get}
use Rattle.bloom_index.specs.Code.HeadRules.{CanTurn}
use Rattle.bloom_index.proofs.HeadParts.{ArePartsAt}
use Rattle.bloom_index.proofs.heads.head_parts.Given as goal

abbrev pub invariant-loop-i : goal.invariant-loop-i
invariant-loop-i l = record {
  many : length l.plans.items ≡ length l.initial.plans.items;
  later : (k : ℕ) → l.i ≤ k → slice_get l.plans.items k ≡ slice_get l.initial.plans.items k;
  made : (can : CanTurn l.rules l.head l.initial.plans.items l.held) → ArePartsAt can.rules l.head l.initial.plans.items l.held can.ready l.i l.parts l.plans.items;
}
