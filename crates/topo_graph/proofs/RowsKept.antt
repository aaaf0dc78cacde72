-- Another mode of a component leaves the streams into each port as they are.
use Rattle.std.proofs.Common.{◌≡◌, ℕ, List, map, length, get_or, refl, ap, sym, ◌∙◌}
use Rattle.blz_value.proofs.Lists.{map_same}
use Rattle.blz_value.specs.NumberSets.{below}
use Rattle.bloom_forms.specs.declared.mode.Mode.{Mode}
use Rattle.topo_graph.specs.Code.Ports.{HasPorts}
use Rattle.topo_forms.specs.Found.{into_port, into_ports}
use Rattle.topo_forms.specs.Valid.{IsValid}
use Rattle.topo_forms.specs.View.{View, Component, component_at, component_numbers, component_with_mode, no_component, with_mode}
use Rattle.topo_graph.proofs.Altered.{altered, set-altered, length-altered, at-same}

module _ (v : View) (c : ℕ) (mode : Mode) where
  abbrev w : View
  w = with_mode v c mode

  changed : w.components ≡ altered (component_with_mode mode) c v.components
  changed = set-altered (component_with_mode mode) c v.components no_component

  count_same : length w.components ≡ length v.components
  count_same = ap (λ (cs : List Component). length cs) changed ∙ length-altered (component_with_mode mode) c v.components

  ports_same : (d : ℕ) → length (component_at w d).ports ≡ length (component_at v d).ports
  ports_same d =
      ap (λ (cs : List Component). length (get_or cs d no_component).ports) changed
      ∙ at-same (component_with_mode mode) (λ (x : Component). length x.ports) (λ x. refl) c d v.components no_component

  pub rows_kept : map (into_ports v) (component_numbers v) ≡ map (into_ports w) (component_numbers w)
  rows_kept = sym
      (ap (λ (n : ℕ). map (into_ports w) (below n)) count_same
      ∙ map_same (into_ports w) (into_ports v) (λ d. ap (λ (n : ℕ). map (into_port v d) (below n)) (ports_same d)) (component_numbers v))

-- streams of a valid view go to ports that are there
pub has_ports : (v : View) → IsValid v → HasPorts v
has_ports v valid s end lt has = (valid.numbered.ends s end lt has).1
