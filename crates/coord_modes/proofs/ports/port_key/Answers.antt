-- A port without a stream carries no key.
use Rattle.std.proofs.Common.{sym}
use Rattle.coord_modes.proofs.PortKeyLemmas.{no_stream_key}
use Rattle.coord_modes.proofs.ports.port_key.Goals as goal

pub returns-in-None : goal.returns-in-None
returns-in-None c = sym (no_stream_key c.args.valid.now.view c.args.component c.args.port (sym c.in-None.ensures.first))
