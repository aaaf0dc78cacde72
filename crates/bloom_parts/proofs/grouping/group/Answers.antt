use Rattle.std.proofs.Common.{◌∙◌}
use Rattle.std.proofs.lemmas.Result.{on_ok_weaker}
use Rattle.bloom_parts.proofs.Settling.{turns_settled}
use Rattle.bloom_parts.proofs.grouping.group.Goals as goal

pub group_sets-requires-clause-kept : goal.group_sets-requires-clause-kept
group_sets-requires-clause-kept c = c.in_ok-part.ensures.kept ∙ c.requires

pub returns-clause-turned : goal.returns-clause-turned
returns-clause-turned c = λ keys agg old new turns stands. c.group_sets.ensures.turned keys agg old new (turns_settled c.args.part c.in_ok-part.part c.in_ok-part.ensures old new turns) stands

pub returns-clause-kept : goal.returns-clause-kept
returns-clause-kept c =
    on_ok_weaker c.group_sets.result (λ k keys agg old new turns stands. k keys agg old new (turns_settled c.args.part c.in_ok-part.part c.in_ok-part.ensures old new turns) stands) c.group_sets.ensures.kept
