use Rattle.bloom_growth.proofs.TurnJoins.{part_shrunk, part_turned}
use Rattle.bloom_growth.proofs.by_key.turn_part.Goals as goal

pub returns-clause-rows : goal.returns-clause-rows
returns-clause-rows g c = λ columns old new t.
    let more = c.args.part.more.now in
    let gone = c.args.part.gone.now in
    let before = g.S.RowsByKey.kept c.args.side.now in
    let middle = g.S.RowsByKey.kept c.shrink.new.self in
    part_turned columns old new more gone before middle (g.S.RowsByKey.kept c.grow.new.self) c.grow.result t
    (part_shrunk columns old new more gone before middle t c.in_ok-shrink.ensures.form c.in_ok-shrink.ensures.rows) c.grow.ensures.form c.grow.ensures.rows
