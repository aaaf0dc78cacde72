use Rattle.std.proofs.Common.{◌≡◌, ◌≤◌, drop}
use Rattle.blz_value.specs.FirstPlace.{first_place}
use Rattle.topo_forms.specs.Validity.TooMany.{too_many_fd}
use Rattle.topo_types.proofs.validity.too_many.first_large_fd.Given as goal

abbrev pub invariant-loop-number : goal.invariant-loop-number
invariant-loop-number l =
    (first_place (λ i fd. too_many_fd i) l.number (drop l.number l.fds) ≡ first_place (λ i fd. too_many_fd i) 0 l.fds)
    × (l.number ≤ 64)
