-- The sides of the dependencies of a view are sets of numbers below 64.
use Rattle.std.proofs.Common.{◌<◌, ◌^◌, ℕ, true, List, map, subst, arith}
use Rattle.blz_value.specs.Members.{Has}
use Rattle.blz_value.proofs.Membership.{Has-from_map}
use Rattle.blz_value.specs.declared.attrs.Fd.{Fd}
use Rattle.blz_value.specs.Bits.{bit_of}
use Rattle.bloom_forms.specs.Form.{Accepted}
use Rattle.bloom_forms.proofs.Reach.Unfolding.{bit_if-lt, with_all-lt}
use Rattle.topo_forms.specs.declared.topology.Topology.{Topology}
use Rattle.blz_value.specs.NumberSets.{set_of_numbers}
use Rattle.topo_forms.specs.Sites.{sites_of, attributes_in, attribute_number}
use Rattle.topo_forms.specs.ViewOf.{fd_view, view_of}

numbers_small : (ns : List ℕ) → set_of_numbers ns < 2 ^ 64
numbers_small ns = with_all-lt bit_of (bit_if-lt true) 0 ns (omega arith)

pub small_sides : (t : Topology) (modules : List Accepted) (fd : Fd) → Has fd (view_of t modules).fds → (fd.from.bits < 2 ^ 64) × (fd.to.bits < 2 ^ 64)
unfolding view_of
small_sides t modules fd h =
    let attributes = attributes_in t.sources (sites_of t.components modules) in
    let m = Has-from_map (fd_view attributes) fd t.fds h in
    subst (λ (z : Fd). (z.from.bits < 2 ^ 64) × (z.to.bits < 2 ^ 64)) m.2 (numbers_small (map (attribute_number attributes) m.0.from), numbers_small (map (attribute_number attributes) m.0.to))
