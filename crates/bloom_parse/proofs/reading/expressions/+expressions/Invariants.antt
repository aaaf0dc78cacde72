-- Levels go down.
use Rattle.std.proofs.Common.{◌+◌, ◌*◌}
use Rattle.bloom_parse.proofs.reading.expressions.+expressions.Given as goal

abbrev pub decreases-expr : goal.decreases-expr
decreases-expr l = 5 * l.room + 1

abbrev pub decreases-opened : goal.decreases-opened
decreases-opened l = 5 * l.room + 2

abbrev pub decreases-select : goal.decreases-select
decreases-select l = 5 * l.room + 3

abbrev pub decreases-project : goal.decreases-project
decreases-project l = 5 * l.room + 3

abbrev pub decreases-parts : goal.decreases-parts
decreases-parts l = 5 * l.room + 3

abbrev pub decreases-keyed : goal.decreases-keyed
decreases-keyed l = 5 * l.room + 3

abbrev pub decreases-group : goal.decreases-group
decreases-group l = 5 * l.room + 4

abbrev pub decreases-at_least : goal.decreases-at_least
decreases-at_least l = 5 * l.room + 4

abbrev pub decreases-deeper_expr : goal.decreases-deeper_expr
decreases-deeper_expr l = 5 * l.room + 5
