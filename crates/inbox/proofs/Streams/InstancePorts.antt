-- The ports of an instance have the places of the key in their columns, and carry it where the view says so.
use Rattle.std.proofs.Common.{◌≡◌, refl, ap, sym, subst, ◌∙◌, ℕ, ◌<◌, Bool, true, false, List, length, map, slice_get, None, Some}
use Rattle.std.specs.Prelude.{if◌then◌else◌}
use Rattle.std.specs.Option.{option_map, option_map_or, option_and_then}
use Rattle.std.proofs.lemmas.List.{length-map}
use Rattle.std.proofs.lemmas.Option.{slice_get-get_or}
use Rattle.blz_value.specs.Record.{Row}
use Rattle.blz_value.specs.Operators.{cells}
use Rattle.blz_value.specs.declared.attrs.Attrs.{Attrs}
use Rattle.blz_value.specs.Closure.{within}
use Rattle.bloom_forms.specs.declared.program.Program.{Program}
use Rattle.bloom_forms.specs.Program.{port_columns}
use Rattle.bloom_forms.specs.HeadRoots.{attribute_roots}
use Rattle.topo_forms.specs.Carried.{port_carries}
use Rattle.topo_forms.specs.Data.{key_places}
use Rattle.topo_forms.specs.Valid.{Runs}
use Rattle.topo_forms.specs.View.{View, component_at, port_attrs, mode_of, mode_key}
use Rattle.inbox.specs.Instances.{Instance, PortKey, key_places_at, is_carrying, key_of_entry}
use Rattle.inbox.specs.Wiring.{instance_for, port_for, places_in_port}
use Rattle.inbox.proofs.WiringLemmas.{get_or-below, instance-ports}
use Rattle.inbox.specs.Agreement.{port_roots}

abbrev nobody : PortKey
nobody = record { places = None; carries = false }

module _ (v : View) (c j : ℕ) (key : Attrs) (mode : mode_key (mode_of v c) ≡ Some key) where
  abbrev i : Instance
  i = instance_for v c j

  pub port_is : (port : ℕ) → port < length (component_at v c).ports → slice_get i.ports port ≡ Some (port_for v c port (Some key))
  port_is port within =
      slice_get-get_or i.ports port nobody (subst (λ n. port < n) (sym (instance-ports v c j)) within)
      ∙ ap Some (get_or-below (λ p. port_for v c p (mode_key (mode_of v c))) (length (component_at v c).ports) port nobody within)
      ∙ ap (λ m. Some (port_for v c port m)) mode

  pub places_are : (port : ℕ) → port < length (component_at v c).ports → key_places_at i port ≡ places_in_port v c port key
  places_are port within = ap (option_and_then (λ p. p.places)) (port_is port within)

  pub carrying_is : (port : ℕ) → port < length (component_at v c).ports → is_carrying i port ≡ port_carries v key.bits c port
  carrying_is port within = ap (λ o. option_map_or (λ p. p.carries) o false) (port_is port within)

  places_cases : (port : ℕ) (b : Bool) → within key.bits (port_attrs v c port).bits ≡ b → places_in_port v c port key ≡ (if b then Some (key_places (port_roots v c port) key.bits) else None)
  places_cases port b e = ap (λ t. if t then Some (key_places (port_roots v c port) key.bits) else None) e

  -- the key of a record at a port that has its columns
  pub key_here : (port : ℕ) (r : Row) → port < length (component_at v c).ports → within key.bits (port_attrs v c port).bits ≡ true
      → key_of_entry i (port, r) ≡ Some (cells (key_places (port_roots v c port) key.bits) r)
  key_here port r there has = ap (option_map (λ places. cells places r)) (places_are port there ∙ places_cases port true has)

  -- and only a port that has them gives one
  pub has_columns : (port : ℕ) (r k : Row) → port < length (component_at v c).ports → key_of_entry i (port, r) ≡ Some k → within key.bits (port_attrs v c port).bits ≡ true
  has_columns port r k there e =
      elim (within key.bits (port_attrs v c port).bits) as (λ b. within key.bits (port_attrs v c port).bits ≡ b → b ≡ true) [
        | true ↦ λ has. refl
        | false ↦ λ lacks. let none : option_map (λ places. cells places r) None ≡ Some k = sym (ap (option_map (λ places. cells places r)) (places_are port there ∙ places_cases port false lacks)) ∙ e in cc
      ] refl

  -- so the key that it gives is that by the places of columns
  pub key_given : (port : ℕ) (r k : Row) → port < length (component_at v c).ports → key_of_entry i (port, r) ≡ Some k → cells (key_places (port_roots v c port) key.bits) r ≡ k
  key_given port r k there is =
      let e : Some (cells (key_places (port_roots v c port) key.bits) r) ≡ Some k = sym (key_here port r there (has_columns port r k there is)) ∙ is in
      cc

  -- the places of the key at a port are those in its columns
  pub places_only : (port : ℕ) (places : List ℕ) → port < length (component_at v c).ports → key_places_at i port ≡ Some places → places ≡ key_places (port_roots v c port) key.bits
  places_only port places there e =
      elim (within key.bits (port_attrs v c port).bits) as (λ b. within key.bits (port_attrs v c port).bits ≡ b → places ≡ key_places (port_roots v c port) key.bits) [
        | true ↦ λ has. let same : Some (key_places (port_roots v c port) key.bits) ≡ Some places = sym (places_are port there ∙ places_cases port true has) ∙ e in cc
        | false ↦ λ lacks. let none : None ≡ Some places = sym (places_are port there ∙ places_cases port false lacks) ∙ e in cc
      ] refl

  module _ (program : Program) (runs : Runs v c program) where
    pub as_many : length (component_at v c).ports ≡ length (port_columns program)
    as_many = sym (length-map (component_at v c).ports (λ port. map Some port.columns)) ∙ ap length runs.ports ∙ length-map (port_columns program) (attribute_roots v.attributes)

    pub ports_same : length i.ports ≡ length (port_columns program)
    ports_same = instance-ports v c j ∙ as_many
