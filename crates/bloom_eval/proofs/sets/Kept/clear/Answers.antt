use Rattle.std.proofs.Common.{◌≡◌, ◌∙◌, ◌+◌, suc, slice_set, arith, ap}
use Rattle.bloom_forms.specs.Step.{Sets}
use Rattle.bloom_eval.proofs.Emptied.{emptied, one_more}
use Rattle.bloom_eval.proofs.sets.Kept.clear.Goals as goal

pub loop-set-preserved : goal.loop-set-preserved
loop-set-preserved c =
    let before = c.deref_mut-set-items.result.now in
    let at = c.loop-set.set-index in
    let next : suc at ≡ at + 1 = omega arith in
    ap (λ (sets : Sets). slice_set sets at c.new.result) c.loop-set.invariant
    ∙ ap (slice_set (emptied at before) at) c.new.ensures
    ∙ one_more before at c.loop-set-test.true
    ∙ ap (λ count. emptied count before) next
