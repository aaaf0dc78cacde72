-- A topology that is written with the modes of its view is so still with another mode.
use Rattle.std.proofs.Common.{◌≡◌, ◌≢◌, ◌<◌, ◌+◌, inl, inr, ℕ, IfOk, Result, Ok, Err, List, length, get_or, slice_set, arith, ap, sym, subst, ◌∙◌}
use Rattle.std.specs.List.{enumerate_from}
use Rattle.std.proofs.lemmas.Bool.{cases_eq}
use Rattle.std.proofs.lemmas.List.{ext_get_or, length-map, length-set, get_or-map, get_or-set_same, get_or-set_other}
use Rattle.std.proofs.lemmas.List.FromFn.{get_or-enumerate_from, length-enumerate_from}
use Rattle.bloom_forms.specs.declared.mode.Mode.{Mode}
use Rattle.topo_forms.specs.declared.topology.ComponentEntry.{ComponentEntry}
use Rattle.topo_forms.specs.declared.topology.Topology.{Topology}
use Rattle.topo_forms.specs.Laws.{validated_with_mode}
use Rattle.topo_forms.specs.Modes.{entry_with_mode, topology_with_mode}
use Rattle.topo_forms.specs.Sites.{no_entry}
use Rattle.topo_forms.specs.Valid.{Validated}
use Rattle.topo_forms.specs.View.{View, Component, no_component, component_at, component_with_mode, mode_of, with_mode}
use Rattle.coord_modes.specs.Plan.{topology_with_modes}
use Rattle.coord_synth.specs.Code.Written.{IsWritten, StaysWritten}

-- the mode that is set, and those of the others
pub mode_set : (v : View) (c : ℕ) (m : Mode) → c < length v.components → mode_of (with_mode v c m) c ≡ m
mode_set v c m lt = ap (λ (x : Component). x.mode) (get_or-set_same v.components c (component_with_mode m (component_at v c)) no_component lt)

pub mode_other : (v : View) (c d : ℕ) (m : Mode) → d ≢ c → mode_of (with_mode v c m) d ≡ mode_of v d
mode_other v c d m other = ap (λ (x : Component). x.mode) (get_or-set_other v.components c d (component_with_mode m (component_at v c)) no_component other)

module _ (t : Topology) where
  abbrev entries : View → List ComponentEntry
  entries v = (topology_with_modes t v).components

  pub count_entries : (v : View) → length (entries v) ≡ length t.components
  count_entries v =
      length-map (enumerate_from 0 t.components) (λ (c : ℕ × ComponentEntry). entry_with_mode v.attributes (mode_of v c.0) c.1) ∙ length-enumerate_from 0 t.components

  pub entry_at : (v : View) (d : ℕ) → d < length t.components → get_or (entries v) d no_entry ≡ entry_with_mode v.attributes (mode_of v d) (get_or t.components d no_entry)
  entry_at v d lt =
      let own : 0 + d ≡ d = omega arith in
      get_or-map (λ (c : ℕ × ComponentEntry). entry_with_mode v.attributes (mode_of v c.0) c.1) (enumerate_from 0 t.components) d (0, no_entry) no_entry (omega (arith, lt, length-enumerate_from 0 t.components))
      ∙ ap (λ (c : ℕ × ComponentEntry). entry_with_mode v.attributes (mode_of v c.0) c.1) (get_or-enumerate_from 0 t.components d (0, no_entry) lt ∙ ap (λ (n : ℕ). (n, get_or t.components d no_entry)) own)

module _ (t : Topology) (v : View) (c : ℕ) (m : Mode) (lt : c < length v.components) where
  abbrev next : View
  next = with_mode v c m

  abbrev changed : List ComponentEntry
  changed = slice_set (entries t v) c (entry_with_mode v.attributes m (get_or (entries t v) c no_entry))

  same_entry : (d : ℕ) → d < length t.components → get_or changed d no_entry ≡ get_or (entries t next) d no_entry
  same_entry d ld = elim (cases_eq d c) [
    | inl here ↦ subst (λ (n : ℕ). get_or changed n no_entry ≡ get_or (entries t next) n no_entry) (sym here) (
        let lc : c < length t.components = omega (arith, ld, here) in
        let inside : c < length (entries t v) = omega (arith, lc, count_entries t v) in
        get_or-set_same (entries t v) c (entry_with_mode v.attributes m (get_or (entries t v) c no_entry)) no_entry inside
        ∙ ap (entry_with_mode v.attributes m) (entry_at t v c lc)
        ∙ ap (λ (n : Mode). entry_with_mode v.attributes n (get_or t.components c no_entry)) (sym (mode_set v c m lt))
        ∙ sym (entry_at t next c lc))
    | inr other ↦
        get_or-set_other (entries t v) c d (entry_with_mode v.attributes m (get_or (entries t v) c no_entry)) no_entry other
        ∙ entry_at t v d ld
        ∙ ap (λ (n : Mode). entry_with_mode v.attributes n (get_or t.components d no_entry)) (sym (mode_other v c d m other))
        ∙ sym (entry_at t next d ld)
  ]

  pub same_entries : changed ≡ entries t next
  same_entries =
      let count = length-set (entries t v) c (entry_with_mode v.attributes m (get_or (entries t v) c no_entry)) in
      ext_get_or no_entry changed (entries t next) (count ∙ count_entries t v ∙ sym (count_entries t next))
      (λ d ld. same_entry d (omega (arith, ld, count, count_entries t v)))

pub written_on : (seen : Validated) (c : ℕ) (m : Mode) → c < length seen.view.components → StaysWritten seen (validated_with_mode seen c m)
written_on seen c m lt t written =
    ap (λ (x : Topology). topology_with_mode seen.view.attributes x c m) written
    ∙ ap (λ (cs : List ComponentEntry). record t { components = cs }) (same_entries t seen.view c m lt)

-- what stays written of a topology is written with the modes that come out
pub both : {E : Type 0} (r : Result Validated E) (t : Topology) (w : View) (start : Validated) (out : View) → out ≡ w → IsWritten t start → IfOk r (λ n. n.view ≡ out) → IfOk r (λ n. StaysWritten start n) → IfOk r (λ n. n.topology ≡ topology_with_modes t w)
both (Ok n) t w start out is written view stays = stays t written ∙ ap (topology_with_modes t) (view ∙ is)
both (Err e) t w start out is written view stays = tt
