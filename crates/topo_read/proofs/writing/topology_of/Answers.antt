-- What format 1 allows format 2 allows.
use Rattle.std.proofs.Common.{subst, sym, ◌∙◌}
use Rattle.topo_forms.specs.declared.topology.Topology.{Topology}
use Rattle.topo_forms.specs.Allowed.{IsAllowed}
use Rattle.topo_read.proofs.AllowedTwo.{allowed_two}
use Rattle.topo_read.proofs.writing.topology_of.Goals as goal

pub returns-clause-allowed : goal.returns-clause-allowed
returns-clause-allowed c = allowed_two c.in_ok-topology.topology (subst IsAllowed (sym (c.in_ok-topology.ensures ∙ c.topology.ensures)) c.whole.ensures.allowed)
