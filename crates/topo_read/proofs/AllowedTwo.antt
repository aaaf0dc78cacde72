-- What a file of format 1 allows one of format 2 allows.
use Rattle.std.proofs.Common.{◌≡◌, ◌≤◌, ◌&&◌, ◌||◌, inl, inr, ℕ, nat_eq, nat_le, true, List, [], ◌∷◌, length, refl, arith, ap, subst, ◌∙◌}
use Rattle.std.specs.List.{list_all}
use Rattle.std.proofs.lemmas.Bool.{eqb-true, or_cases}
use Rattle.std.proofs.lemmas.Bool.Decides.{nat_tests}
use Rattle.blz_value.proofs.Booleans.{and_true, both_true as both}
use Rattle.topo_forms.specs.declared.topology.FdEntry.{FdEntry}
use Rattle.topo_forms.specs.declared.topology.Topology.{Topology}
use Rattle.topo_forms.specs.Allowed.{IsAllowed, are_some_names, allows_source, allows_component, allows_stream, allows_side, allows_fd}

more_names : (names : List (List ℕ)) → allows_side 1 names ≡ true → allows_side 2 names ≡ true
more_names names e =
    let parts = both (are_some_names names) (nat_le (length names) 1) e in
    let few : length names ≤ 1 = (let t = parts.1 in grind (arith, nat_tests)) in
    let fewer : length names ≤ 8 = omega (arith, few) in
    and_true (are_some_names names) (nat_le (length names) 8) parts.0 (grind (arith, nat_tests))

all_fds : (fds : List FdEntry) → list_all (allows_fd 1) fds ≡ true → list_all (allows_fd 2) fds ≡ true
all_fds [] e = refl
all_fds (fd ∷ fds) e =
    let parts = both (allows_fd 1 fd) (list_all (allows_fd 1) fds) e in
    let sides = both (allows_side 1 fd.from) (allows_side 1 fd.to) parts.0 in
    and_true (allows_fd 2 fd) (list_all (allows_fd 2) fds) (and_true (allows_side 2 fd.from) (allows_side 2 fd.to) (more_names fd.from sides.0) (more_names fd.to sides.1)) (all_fds fds parts.1)

pub allowed_two : (t : Topology) → IsAllowed t → IsAllowed (record t { format = 2 })
allowed_two t allowed =
    let one = both (nat_eq t.format 1 || nat_eq t.format 2) _ allowed in
    let sources = both (list_all allows_source t.sources) _ one.1 in
    let components = both (list_all allows_component t.components) _ sources.1 in
    let streams = both (list_all allows_stream t.streams) (list_all (allows_fd t.format) t.fds) components.1 in
    let fds : list_all (allows_fd 2) t.fds ≡ true = elim (or_cases (nat_eq t.format 1) (nat_eq t.format 2) one.0) [
      | inl old ↦ all_fds t.fds (subst (λ (n : ℕ). list_all (allows_fd n) t.fds ≡ true) (eqb-true t.format 1 old) streams.1)
      | inr new ↦ subst (λ (n : ℕ). list_all (allows_fd n) t.fds ≡ true) (eqb-true t.format 2 new) streams.1
    ] in
    and_true (list_all allows_source t.sources) _ sources.0 (and_true (list_all allows_component t.components) _ components.0 (and_true (list_all allows_stream t.streams) (list_all (allows_fd 2) t.fds) streams.0 fds))
