-- What the first stream carries decides.
use Rattle.std.proofs.Common.{sym, ◌∙◌}
use Rattle.coord_modes.proofs.PortKeyLemmas.{no_carried_key, carried_port_key}
use Rattle.coord_modes.proofs.ports.key_from.Goals as goal

pub returns-in-Some : goal.returns-in-Some
returns-in-Some c = c.key_of_all.ensures ∙ sym (carried_port_key c.args.valid.now.view c.args.component c.args.port c.args.first c.requires.first c.in-Some.key (sym c.in-Some.ensures))

pub returns-in-None : goal.returns-in-None
returns-in-None c = sym (no_carried_key c.args.valid.now.view c.args.component c.args.port c.args.first c.requires.first (sym c.in-None.ensures))
