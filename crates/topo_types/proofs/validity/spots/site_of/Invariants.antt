use Rattle.std.proofs.Common.{◌≡◌, drop}
use Rattle.topo_types.specs.Code.Built.{sites_seen}
use Rattle.topo_forms.specs.Sites.{site_of}
use Rattle.topo_types.proofs.validity.spots.site_of.Given as goal

abbrev pub invariant-loop-site : goal.invariant-loop-site
invariant-loop-site l = site_of (sites_seen (drop l.site-index l.sites)) l.name ≡ site_of (sites_seen l.sites) l.name
