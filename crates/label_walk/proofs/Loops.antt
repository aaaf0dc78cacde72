-- Lists over the numbers below a count, by one more number.
use Rattle.std.proofs.Common.{◌≡◌, ◌+◌, ℕ, [], ◌∷◌, ◌++◌, ◌∙◌}
use Rattle.std.proofs.lemmas.Grind.{common_steps}
use Rattle.std.proofs.lemmas.List.Elements.{filter_map-append}
use Rattle.blz_value.proofs.Ranges.{map_below_more, filter_below_more, flat_below_more}
use Rattle.topo_forms.proofs.Views.InRange.{note_within}

-- a step of a loop over the numbers below a count
pub ruleset below_steps = (common_steps, map_below_more, filter_below_more, flat_below_more)

-- a step of a loop over the notes of a port
pub ruleset note_steps = (common_steps, filter_map-append, note_within)
