-- the heads that are left do the rest
use Rattle.std.proofs.Common.{drop}
use Rattle.bloom_eval.specs.Code.Held.{sets_in}
use Rattle.bloom_eval.proofs.Taking.{IsAt}
use Rattle.bloom_eval.proofs.step.take_heads.Given as goal

abbrev pub invariant-loop-head : goal.invariant-loop-head
invariant-loop-head l = IsAt l.program (sets_in l.initial.held.items) (sets_in l.held.items) (drop l.head-index l.heads)
