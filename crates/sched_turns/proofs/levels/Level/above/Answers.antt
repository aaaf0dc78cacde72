use Rattle.std.proofs.Common.{◌∙◌, ◌++◌, ◌∷◌, [], ◌<◌, ◌*◌, List, ℕ, ap, length, take, arith}
use Rattle.std.proofs.lemmas.List.{take_all}
use Rattle.sched_turns.specs.Code.Levels.{halved}
use Rattle.sched_turns.proofs.LevelsLemmas.{pairs-more, length-halved}
use Rattle.sched_turns.proofs.levels.Level.above.Goals as goal

pub loop-pair-preserved : goal.loop-pair-preserved
loop-pair-preserved c =
    let some : 2 * c.loop-pair.pair < length c.args.self.now = omega (arith, c.loop-pair-test.true, c.div_ceil-pair-end.ensures, c.len.ensures) in
    c.in_ok-push.ensures.items
    ∙ ap (λ (l : List ℕ). l ++ c.pair_at.result ∷ []) c.loop-pair.invariant
    ∙ ap (λ n. take c.loop-pair.pair (halved c.args.self.now) ++ n ∷ []) c.pair_at.ensures
    ∙ pairs-more c.args.self.now c.loop-pair.pair some

pub returns : goal.returns
returns c =
    c.loop-pair.invariant
    ∙ take_all c.loop-pair.pair (halved c.args.self.now) (omega (arith, c.loop-pair-test.false, c.div_ceil-pair-end.ensures, c.len.ensures, (length-halved c.args.self.now).1))
