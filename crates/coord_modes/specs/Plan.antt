-- The plan of a topology: which components pass seals on, which wait for them, and which take one order.
use Rattle.std.specs.Prelude.{ℕ, ◌&&◌, not, nat_lt, Bool, true, false, if◌then◌else◌, Option, None, Some, List, [], map, fold}
use Rattle.std.specs.List.{list_all, list_any, find, filter_map, enumerate_from}
use Rattle.blz_value.specs.declared.attrs.Attrs.{Attrs}
use Rattle.bloom_forms.specs.declared.mode.Mode.{Mode}
use Rattle.bloom_forms.specs.declared.mode.Mode.TheVariants.{Free, Pass, Seal, Order}
use Rattle.topo_forms.specs.declared.topology.Topology.{Topology}
use Rattle.topo_forms.specs.Carried.{is_confluent, port_key}
use Rattle.blz_value.specs.Graph.{is_cyclic_set}
use Rattle.topo_forms.specs.Modes.{entry_with_mode}
use Rattle.topo_forms.specs.Regions.{edges, regions}
use Rattle.blz_value.specs.Bits.{members}
use Rattle.topo_forms.specs.View.{View, Component, is_order, is_order_mode, is_replicated, mode_of, component_with_mode, port_numbers, streams_from, with_mode}
use Rattle.label_rules.specs.declared.label.Label.{Label}
use Rattle.label_rules.specs.Label.{severity}
use Rattle.label_walk.specs.Labels.{labels_of, region_label}
use Rattle.label_walk.specs.Paths.{label_at, notes_in, is_replicated_set}
use Rattle.coord_modes.specs.declared.steps.Steps.{Steps}

-- ---- where a plan begins

-- a component that is written Order stays so, and every other starts Free
abbrev pub freed_component : Component → Component
freed_component c = component_with_mode (if is_order_mode c.mode then Order else Free) c

abbrev pub freed : View → View
freed v = record v { components = map freed_component v.components }

-- ---- a component

-- a note of the component is O
abbrev pub has_order_note : View → (component : ℕ) → Bool
has_order_note v c = list_any (λ note. not (is_confluent note)) (notes_in v c)

-- worse than Async
abbrev pub is_bad : Label → Bool
is_bad label = nat_lt 2 (severity label)

-- all output streams of the component are Seal or Async
abbrev pub is_good : View → (component : ℕ) → Bool
is_good v c = list_all (λ s. not (is_bad (label_at (labels_of v) s))) (streams_from v c)

-- the mode that is tried with a key: Pass where all notes of the component are CR or CW, else Seal
abbrev pub tried_mode : View → (component : ℕ) → Attrs → Mode
tried_mode v c key = if has_order_note v c then Seal key else Pass key

-- the topology in which a trial is judged: with the modes set so far and this one
abbrev pub trial : View → (component : ℕ) → Attrs → View
trial v c key = with_mode v c (tried_mode v c key)

-- the keys that are tried, port by port
abbrev pub tried_keys : Steps → View → (component : ℕ) → List Attrs
tried_keys steps v c = if steps.keys then filter_map (port_key v c) (port_numbers v c) else []

-- the first key under which all output streams are Seal or Async
abbrev pub kept_key : Steps → View → (component : ℕ) → Option Attrs
kept_key steps v c = find (λ key. is_good (trial v c key) c) (tried_keys steps v c)

-- an O note, an output stream worse than Async and more than one replica
abbrev pub wants_order : View → (component : ℕ) → Bool
wants_order v c = has_order_note v c && (not (is_good v c) && is_replicated v c)

-- where no key is kept
abbrev pub ordered : Steps → View → (component : ℕ) → View
ordered steps v c = if steps.orders && wants_order v c then with_mode v c Order else v

abbrev pub with_key : Steps → View → (component : ℕ) → Option Attrs → View
with_key steps v c None = ordered steps v c
with_key steps v c (Some key) = trial v c key

-- a component of an acyclic region
abbrev pub plan_component : Steps → View → (component : ℕ) → View
plan_component steps v c = if is_order v c then v else with_key steps v c (kept_key steps v c)

-- ---- a region

-- a member of a cyclic region
abbrev pub order_member : View → (component : ℕ) → View
order_member v c = if has_order_note v c then with_mode v c Order else v

-- a replicated region on a cycle that as it stands is neither Seal nor Async
abbrev pub cycle_wants_order : View → (set : ℕ) → Bool
cycle_wants_order v set = is_replicated_set v set && is_bad (region_label v (labels_of v) set)

abbrev pub plan_cycle : Steps → View → (set : ℕ) → View
plan_cycle steps v set = if steps.orders && cycle_wants_order v set then fold order_member v (members set) else v

-- one region, where the plan began with this topology
abbrev pub plan_region : Steps → (start : View) → View → (set : ℕ) → View
plan_region steps start v set = if is_cyclic_set (edges start) set then plan_cycle steps v set else fold (plan_component steps) v (members set)

-- ---- the whole

-- the regions of the topology where the plan begins are taken in order
unfoldable pub planned_by : Steps → View → View
planned_by steps v = fold (plan_region steps (freed v)) (freed v) (regions (freed v))

abbrev pub all_steps : Steps
all_steps = record { keys = true; orders = true }

-- the plan
abbrev pub planned : View → View
planned v = planned_by all_steps v

-- the plan without its Order steps
abbrev pub seal_planned : View → View
seal_planned v = planned_by (record { keys = true; orders = false }) v

-- the plan without its keys
abbrev pub order_planned : View → View
order_planned v = planned_by (record { keys = false; orders = true }) v

-- ---- as it is written

-- a topology with the modes of a view
abbrev pub topology_with_modes : Topology → View → Topology
topology_with_modes t v = record t { components = map (λ c. entry_with_mode v.attributes (mode_of v c.0) c.1) (enumerate_from 0 t.components) }
