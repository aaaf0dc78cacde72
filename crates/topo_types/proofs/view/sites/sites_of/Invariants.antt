use Rattle.std.proofs.Common.{◌≡◌, ◌++◌, drop}
use Rattle.topo_forms.specs.Sites as spec
use Rattle.topo_types.specs.Code.Built.{sites_seen}
use Rattle.topo_types.proofs.view.sites.sites_of.Given as goal

abbrev pub invariant-loop-component : goal.invariant-loop-component
invariant-loop-component l = sites_seen l.sites.items ++ spec.sites_of (drop l.component-index l.components) l.rest ≡ spec.sites_of l.components l.modules
