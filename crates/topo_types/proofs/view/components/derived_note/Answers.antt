use Rattle.std.proofs.Common.{◌∙◌}
use Rattle.topo_types.specs.Code.Built.{site_seen}
use Rattle.topo_types.proofs.Faults.BuiltSites.{notes_port, notes_output, notes_note}
use Rattle.topo_types.proofs.view.components.derived_note.Goals as goal

pub at-requires-clause-port : goal.at-requires-clause-port
at-requires-clause-port c = notes_port c.args.names.now (site_seen c.args.site.now) c.args.derived.now c.in-Some.notes c.args.port c.args.output c.requires.notes c.in-Some.is c.requires.built c.requires.port c.requires.output

pub at-requires-clause-output : goal.at-requires-clause-output
at-requires-clause-output c = notes_output c.args.names.now (site_seen c.args.site.now) c.args.derived.now c.in-Some.notes c.args.port c.args.output c.requires.notes c.in-Some.is c.requires.built c.requires.port c.requires.output

pub returns-in-Some : goal.returns-in-Some
returns-in-Some c = c.at.ensures ∙ notes_note c.args.names.now (site_seen c.args.site.now) c.args.derived.now c.in-Some.notes c.args.port c.args.output c.requires.notes c.in-Some.is c.requires.built c.requires.port c.requires.output
