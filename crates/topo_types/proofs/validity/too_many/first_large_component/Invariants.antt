use Rattle.std.proofs.Common.{◌≡◌, ◌≤◌, length, take, drop}
use Rattle.blz_value.specs.FirstPlace.{first_place}
use Rattle.topo_types.specs.Code.Built.{sites_seen}
use Rattle.topo_forms.specs.Sites.{attributes_in}
use Rattle.topo_forms.specs.Validity.TooMany.{large_component, replica_sum}
use Rattle.topo_types.proofs.validity.too_many.first_large_component.Given as goal

abbrev pub invariant-loop-number : goal.invariant-loop-number
invariant-loop-number l =
    (first_place (large_component l.sources (sites_seen l.sites)) l.number (sites_seen (drop l.number l.sites)) ≡ first_place (large_component l.sources (sites_seen l.sites)) 0 (sites_seen l.sites))
    × (l.names ≡ attributes_in l.sources (take l.number (sites_seen l.sites)))
    × (length l.names ≤ 64)
    × (l.replicas ≡ replica_sum (take l.number (sites_seen l.sites)))
    × (l.replicas ≤ 64)
    × (l.number ≤ 32)
