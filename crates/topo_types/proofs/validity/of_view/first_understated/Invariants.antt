use Rattle.std.proofs.Common.{◌≡◌, drop}
use Rattle.blz_value.specs.FirstPlace.{first_place}
use Rattle.topo_types.specs.Code.Built.{sites_seen}
use Rattle.topo_forms.specs.Validity.OfView.{is_understated}
use Rattle.topo_types.proofs.validity.of_view.first_understated.Given as goal

abbrev pub invariant-loop-number : goal.invariant-loop-number
invariant-loop-number l =
    first_place (λ i site. is_understated l.names site) l.number (sites_seen (drop l.number l.sites)) ≡ first_place (λ i site. is_understated l.names site) 0 (sites_seen l.sites)
