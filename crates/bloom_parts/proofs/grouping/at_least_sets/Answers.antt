use Rattle.blz_value.specs.Groups.{at_least_rows}
use Rattle.blz_value.specs.Sets.{set_of}
use Rattle.blz_value.specs.declared.aggregate.Agg.TheVariants.{Count}
use Rattle.bloom_parts.proofs.Turning.{turned_of, turned_into, few_often, groups_turn}
use Rattle.bloom_parts.proofs.grouping.at_least_sets.Goals as goal

pub returns-clause-turned : goal.returns-clause-turned
returns-clause-turned c = λ keys old new turns stands.
    let part = c.args.part.now in
    let bound = c.args.bound in
    let made = c.turned.ensures in
    let turn = groups_turn keys Count old new c.turning.result.more.now c.turning.result.gone.now part c.args.groups.now c.requires.kept c.turning.ensures.more c.turning.ensures.gone turns stands in
    turned_into (set_of (at_least_rows keys bound old)) (set_of (at_least_rows keys bound new)) c.in_ok-turn.turn c.turned.result made.kept made.rows made.gone (few_often keys bound old (turned_of old new part turns c.requires.kept).1) (c.in_ok-turn.ensures.often keys Count old new turn)
