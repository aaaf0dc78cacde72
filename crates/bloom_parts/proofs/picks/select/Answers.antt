use Rattle.std.proofs.Common.{◌∙◌}
use Rattle.blz_value.specs.Test.{test_holds}
use Rattle.bloom_parts.proofs.Selecting.{select_all}
use Rattle.bloom_parts.proofs.Turning.{select_turns}
use Rattle.bloom_parts.proofs.picks.select.Goals as goal

pub returns-then-not-part : goal.returns-then-not-part
returns-then-not-part c = λ old new turns.
    select_all (test_holds c.args.test.now) old new c.args.part.now c.all.result turns c.if-not-part.true c.all.ensures.kept (c.all.ensures.rows ∙ c.in_ok-rows.ensures)

pub returns : goal.returns
returns c = λ old new turns.
    let made = c.kept.ensures in
    select_turns (test_holds c.args.test.now) old new c.args.part.now c.kept.result turns c.if-not-part.false made.kept (made.rows ∙ c.in_ok-rows.ensures) (made.gone ∙ c.in_ok-gone.ensures)
