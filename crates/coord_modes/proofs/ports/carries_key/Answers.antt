-- What a stream carries is the key, or it doesn't carry it.
use Rattle.std.proofs.Common.{ap, ◌∙◌}
use Rattle.blz_value.specs.Arrows.{is_key}
use Rattle.coord_modes.proofs.PortKeyLemmas.{carries_key_is}
use Rattle.coord_modes.proofs.ports.carries_key.Goals as goal

pub returns : goal.returns
returns c = c.is_key.ensures ∙ ap (is_key c.args.key.bits) c.carries.ensures ∙ carries_key_is c.args.valid.now.view c.known.ensures c.args.key.bits c.args.stream c.requires
