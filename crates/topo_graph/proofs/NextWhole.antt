-- A valid topology with another mode is as a Valid is to be.
use Rattle.std.proofs.Common.{◌≡◌, ◌<◌, ℕ, List, length, arith, ap, sym, subst, ◌∙◌}
use Rattle.std.proofs.lemmas.List.{length-map}
use Rattle.bloom_forms.specs.Form.{Accepted}
use Rattle.bloom_forms.specs.declared.mode.Mode.{Mode}
use Rattle.topo_forms.specs.Bounded.{IsBounded}
use Rattle.topo_forms.specs.Found.{HasEnds}
use Rattle.topo_forms.specs.Laws.{CanHaveMode, validated_with_mode}
use Rattle.topo_forms.specs.Sites.{sites_of, attributes_in}
use Rattle.topo_forms.specs.Valid.{IsValid, IsWhole, IsValidated, Validated}
use Rattle.topo_forms.specs.View.{View, with_mode}
use Rattle.topo_forms.specs.ViewOf.{view_of, modules_in, component_view}
use Rattle.topo_forms.proofs.Views.GivenModules.{modules_law}
use Rattle.topo_forms.proofs.Faults.NoFault.{length_sites}
use Rattle.topo_graph.proofs.ValidEnds.{has_ends}
use Rattle.topo_forms.proofs.Views.ValidViews.{valid_law}
use Rattle.topo_forms.proofs.Views.ViewBounds.{view_bounded}
use Rattle.topo_graph.proofs.WithModeLaw.{with_mode_law}

module _ (seen : Validated) (c : ℕ) (mode : Mode) (whole : IsWhole seen) (can : CanHaveMode seen.view c mode) where
  abbrev modules : List Accepted
  modules = modules_in seen.view

  next : IsValidated modules (validated_with_mode seen c mode)
  next = with_mode_law modules seen c mode whole can

  -- the component is written
  pub written_within : c < length seen.topology.components
  unfolding view_of
  written_within =
      let t = seen.topology in
      let count : length seen.view.components ≡ length t.components = ap (λ (v : View). length v.components) whole.is ∙ length-map (sites_of t.components modules) (component_view (attributes_in t.sources (sites_of t.components modules))) ∙ length_sites t.components modules in
      omega (arith, can.within, count)

  same_modules : modules_in (with_mode seen.view c mode) ≡ modules
  same_modules = ap modules_in next.is ∙ modules_law (validated_with_mode seen c mode).topology modules next.given

  pub next_whole : (other : Validated) → other ≡ validated_with_mode seen c mode → IsWhole other
  next_whole other is = subst IsWhole (sym is) (subst (λ (ms : List Accepted). IsValidated ms (validated_with_mode seen c mode)) (sym same_modules) next)

  module _ (v : View) (is : v ≡ with_mode seen.view c mode) where
    pub next_valid : IsValid v
    next_valid = subst IsValid (sym (is ∙ next.is)) (valid_law (validated_with_mode seen c mode).topology modules next.allowed next.given next.clean)

    pub next_bounded : IsBounded v
    next_bounded = subst IsBounded (sym (is ∙ next.is)) (view_bounded (validated_with_mode seen c mode).topology modules next.clean)

    pub next_ends : HasEnds v
    next_ends = has_ends v next_valid
