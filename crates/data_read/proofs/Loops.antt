-- Lists over the numbers below a count, by one more number.
use Rattle.std.proofs.Common.{◌≡◌, ◌+◌, ℕ, [], ◌∷◌, ◌++◌, ◌∙◌}
use Rattle.std.proofs.lemmas.Grind.{common_steps}
use Rattle.blz_value.proofs.Ranges.{map_below_more, filter_below_more}

-- a step of a loop over the numbers below a count
pub ruleset below_steps = (common_steps, map_below_more, filter_below_more)
