-- What holds of all valid topologies.
use Rattle.std.specs.Prelude.{ℕ, ◌≡◌, ◌≢◌, ◌<◌, ◌^◌, ◌⊎◌, ◌||◌, ◌&&◌, Bool, IsTrue, IsFalse, Option, None, Some, List, length}
use Rattle.std.specs.List.{list_all}
use Rattle.blz_value.specs.declared.attrs.Fd.{Fd}
use Rattle.blz_value.specs.Members.{Has}
use Rattle.bloom_forms.specs.Form.{Accepted}
use Rattle.bloom_forms.specs.declared.mode.Mode.{Mode}
use Rattle.bloom_forms.specs.declared.mode.Mode.TheVariants.{Free, Pass, Seal, Order}
use Rattle.topo_forms.specs.declared.topology.Topology.{Topology}
use Rattle.topo_forms.specs.Allowed.{IsAllowed}
use Rattle.topo_forms.specs.Carried.{may_carry, streams_towards, carries_key}
use Rattle.blz_value.specs.Arrows.{is_key}
use Rattle.topo_forms.specs.Dependencies.{upholds_alone, hands_on, upholds}
use Rattle.topo_forms.specs.Validity.{fault_of}
use Rattle.blz_value.specs.Graph.{Edge, IsNumbered, numbered_regions}
use Rattle.topo_forms.specs.Modes.{topology_with_mode}
use Rattle.topo_forms.specs.Regions.{edges, region_of, region_set, is_in_cycle}
use Rattle.topo_forms.specs.Valid.{IsValid, Validated, IsValidated, AreModules}
use Rattle.topo_forms.specs.View.{View, End, origin_of, stream_at, streams_into, is_order, with_mode}
use Rattle.topo_forms.specs.ViewOf.{view_of, modules_in}

-- ---- validation

-- the view of a topology without a fault is valid
abbrev pub ValidLaw : Type 0
ValidLaw = (t : Topology) (modules : List Accepted) → IsAllowed t → AreModules t modules → fault_of t modules ≡ None → IsValid (view_of t modules)

-- and its modules can be told from it
abbrev pub ModulesLaw : Type 0
ModulesLaw = (t : Topology) (modules : List Accepted) → AreModules t modules → modules_in (view_of t modules) ≡ modules

-- a key that isn't empty holds attributes of the topology only
abbrev pub IsKeyOf : View → Mode → Type 0
IsKeyOf v Free = Unit {0}
IsKeyOf v (Pass key) = (key.bits ≢ 0) × (key.bits < 2 ^ length v.attributes)
IsKeyOf v (Seal key) = (key.bits ≢ 0) × (key.bits < 2 ^ length v.attributes)
IsKeyOf v Order = Unit {0}

-- the mode neither passes seals on nor waits for them
abbrev pub IsWithoutKey : Mode → Type 0
IsWithoutKey Free = Unit {0}
IsWithoutKey (Pass key) = ⊥
IsWithoutKey (Seal key) = ⊥
IsWithoutKey Order = Unit {0}

-- this mode may be written at the component
pub record CanHaveMode (v : View) (c : ℕ) (mode : Mode) : Type 0 where
  pub within : c < length v.components
  pub unordered : IsFalse (is_order v c)
  pub key : IsKeyOf v mode
  pub acyclic : IsTrue (is_in_cycle v c) → IsWithoutKey mode

-- a topology with another mode
abbrev pub validated_with_mode : Validated → ℕ → Mode → Validated
validated_with_mode seen c mode = record { topology = topology_with_mode seen.view.attributes seen.topology c mode; view = with_mode seen.view c mode }

-- it is valid where the mode may be written there
abbrev pub WithModeLaw : Type 0
WithModeLaw = (modules : List Accepted) (seen : Validated) (c : ℕ) (mode : Mode) →
    IsValidated modules seen → CanHaveMode seen.view c mode → IsValidated modules (validated_with_mode seen c mode)

-- ---- regions

-- over edges between up to 64 nodes
abbrev pub RegionsLaw : Type 0
RegionsLaw = (count : ℕ) (es : List Edge) → count < 65 → ((e : Edge) → Has e es → (e.0 < count) × (e.1 < count)) → IsNumbered count es (numbered_regions es count)

-- a stream that counts comes from a region before that into which it goes, or stays in a cyclic one
abbrev pub RegionOrder : Type 0
RegionOrder = (v : View) → IsValid v → (e : Edge) → Has e (edges v) →
    (region_of v e.0 < region_of v e.1) ⊎ ((region_set v e.0 ≡ region_set v e.1) × IsTrue (is_in_cycle v e.0))

-- no component in a cyclic region is Order
abbrev pub OrderIsAcyclic : Type 0
OrderIsAcyclic = (v : View) (component : ℕ) → IsValid v → component < length v.components → IsTrue (is_order v component) →
    IsFalse (is_in_cycle v component)

-- ---- dependencies and carried seals: one level, in any topology of up to 64 streams

-- an output hands a dependency on where every stream into its component upholds it
abbrev pub upholds_next : View → Fd → (ℕ → Bool) → (stream : ℕ) → Option End → Bool
upholds_next v fd holds s None = upholds_alone v fd s
upholds_next v fd holds s (Some output) = upholds_alone v fd s || (hands_on v fd (Some output) && list_all holds (streams_into v output.0))

abbrev pub UpholdsLaw : Type 0
UpholdsLaw = (v : View) → length v.streams < 65 → (fd : Fd) (s : ℕ) → s < length v.streams →
    upholds v fd s ≡ upholds_next v fd (upholds v fd) s (origin_of v s)

-- an output carries a key where it may and all streams into the ports with a note towards it carry it
abbrev pub carries_next : View → (key : ℕ) → (ℕ → Bool) → (stream : ℕ) → Option End → Bool
carries_next v key holds s None = is_key key (stream_at v s).key
carries_next v key holds s (Some output) = is_key key (stream_at v s).key || (may_carry v key (Some output) && list_all holds (streams_towards v output.0 output.1))

abbrev pub CarriesLaw : Type 0
CarriesLaw = (v : View) → length v.streams < 65 → (key s : ℕ) → s < length v.streams →
    carries_key v key s ≡ carries_next v key (carries_key v key) s (origin_of v s)

-- in a valid topology no other streams fit these equations
abbrev pub UpholdsOnce : Type 0
UpholdsOnce = (v : View) → IsValid v → (fd : Fd) (holds : ℕ → Bool) →
    ((s : ℕ) → s < length v.streams → holds s ≡ upholds_next v fd holds s (origin_of v s)) →
    (s : ℕ) → s < length v.streams → holds s ≡ upholds v fd s

abbrev pub CarriesOnce : Type 0
CarriesOnce = (v : View) → IsValid v → (key : ℕ) (holds : ℕ → Bool) →
    ((s : ℕ) → s < length v.streams → holds s ≡ carries_next v key holds s (origin_of v s)) →
    (s : ℕ) → s < length v.streams → holds s ≡ carries_key v key s
