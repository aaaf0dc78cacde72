use Rattle.blz_value.specs.Groups.{group_rows}
use Rattle.blz_value.specs.Sets.{set_of}
use Rattle.bloom_parts.proofs.Turning.{turned_of, turned_into, few_grouped, groups_turn}
use Rattle.bloom_parts.proofs.grouping.group_sets.Goals as goal

pub returns-clause-turned : goal.returns-clause-turned
returns-clause-turned c = λ keys agg old new turns stands.
    let part = c.args.part.now in
    let made = c.turned.ensures in
    let turn = groups_turn keys agg old new c.turning.result.more.now c.turning.result.gone.now part c.args.groups.now c.requires.kept c.turning.ensures.more c.turning.ensures.gone turns stands in
    turned_into (set_of (group_rows keys agg old)) (set_of (group_rows keys agg new)) c.in_ok-turn.turn c.turned.result made.kept made.rows made.gone (few_grouped keys agg old (turned_of old new part turns c.requires.kept).1) (c.in_ok-turn.ensures.rows keys agg old new turn)
