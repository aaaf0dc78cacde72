use Rattle.std.proofs.Common.{◌≡◌, true, Ok, sym, arith}
use Rattle.std.proofs.lemmas.List.{length-map}
use Rattle.blz_value.specs.Operators.{cells, project_rows}
use Rattle.blz_value.specs.Sets.{set_of}
use Rattle.blz_value.proofs.RowSets.{length-set_of-le}
use Rattle.bloom_parts.proofs.Turning.{turned_of, turned_as, turned_into, flagged}
use Rattle.bloom_parts.proofs.picks.project_sets.Goals as goal

pub returns-clause-turned : goal.returns-clause-turned
returns-clause-turned c = λ old new turns wide stands.
    let part = c.args.part.now in
    let columns = c.args.columns.now in
    let before = set_of (project_rows columns old) in
    let after = set_of (project_rows columns new) in
    let kept : part.kept ≡ true = c.if-not-part.false in
    let made = c.turned.ensures in
    let was = turned_of old new part turns kept in
    let turn = c.in_ok-turn.ensures.rows old new (record {
      turned = turned_as old new c.turning.result.more.now c.turning.result.gone.now part turns kept c.turning.ensures.more c.turning.ensures.gone;
      few_old = was.1;
      few_new = turns.few;
      wide = wide;
      stand = stands kept;
    }) in
    flagged true part.kept before after (Ok c.turned.result) (sym kept)
    (turned_into before after c.in_ok-turn.turn c.turned.result made.kept made.rows made.gone (omega (arith, was.1, length-set_of-le (project_rows columns old), length-map old (cells columns))) turn)
