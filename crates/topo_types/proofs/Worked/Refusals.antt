-- Worked topologies that are refused, and some that aren't.
use Rattle.std.proofs.Common.{◌≡◌, ℕ, pos, refl, None, Some, List, [], ◌∷◌}
use Rattle.std.specs.Prelude.{codes}
use Rattle.blz_value.specs.Bits.{bit_of, meets}
use Rattle.blz_value.specs.Closure.{within, closure, step}
use Rattle.topo_forms.specs.declared.fault.TopoKind.TheVariants as kind
use Rattle.topo_forms.specs.declared.fault.TopoPlace.TheVariants as place
use Rattle.topo_forms.specs.declared.topology.Body.TheVariants as body
use Rattle.topo_forms.specs.declared.topology.ComponentEntry.{ComponentEntry}
use Rattle.topo_forms.specs.declared.topology.Declared.{Declared}
use Rattle.topo_forms.specs.declared.topology.ModeName.TheVariants as mode
use Rattle.topo_forms.specs.declared.topology.NoteName.TheVariants as note
use Rattle.topo_forms.specs.Validity.{fault_of}
use Rattle.topo_forms.specs.Regions.{is_in_cycle, region_set}
use Rattle.topo_forms.specs.ViewOf.{view_of}
use Rattle.topo_forms.proofs.Worked.Gossip.{gossip, telling, item}
use Rattle.topo_forms.proofs.Found.Unusable.{unusable, sums_module}
use Rattle.topo_forms.proofs.Worked.WordCount.{spot, bodied, word_count, count_module, commit_module, splitting}

-- word count and the topology with a dependency that isn't usable have no fault
pub word_count_is_valid : fault_of word_count (count_module ∷ commit_module ∷ []) ≡ None
unfolding fault_of view_of is_in_cycle region_set bit_of meets within closure step
word_count_is_valid = refl

pub unusable_is_valid : fault_of unusable (sums_module ∷ []) ≡ None
unfolding fault_of view_of is_in_cycle region_set bit_of meets within closure step
unusable_is_valid = refl

-- a port that isn't there
pub unknown_port : fault_of
    (record word_count { sources = record { name = codes "tweets"; columns = codes "id" ∷ codes "text" ∷ codes "batch" ∷ []; types = []; seal = codes "batch" ∷ []; to = spot (codes "split") (codes "inn") ∷ [] } ∷ [] })
    (count_module ∷ commit_module ∷ []) ≡ Some (record { kind = kind.Unknown; place = place.Source 1 })
unfolding fault_of view_of is_in_cycle region_set bit_of meets within closure step
unknown_port = refl

-- the three components of word count, the last two with so many replicas, and count with these notes declared
abbrev pub components_with : (counts commits : ℕ) → List Declared → List ComponentEntry
components_with counts commits notes =
    splitting
    ∷ record (bodied (codes "count") (body.Module (codes "count.bloom"))) { replicas = pos counts; notes = notes }
    ∷ record (bodied (codes "commit") (body.Module (codes "commit.bloom"))) { replicas = pos commits }
    ∷ []

-- count at two replicas and commit at three
pub mismatched : fault_of (record word_count { components = components_with 2 3 [] }) (count_module ∷ commit_module ∷ [])
    ≡ Some (record { kind = kind.ReplicaMismatch; place = place.Stream 2 })
unfolding fault_of view_of is_in_cycle region_set bit_of meets within closure step
mismatched = refl

-- count's path declared CW
pub understated : fault_of
    (record word_count { components = components_with 1 1 (record { from = codes "words"; to = codes "counts"; note = note.CW; gate = [] } ∷ []) })
    (count_module ∷ commit_module ∷ []) ≡ Some (record { kind = kind.Understated; place = place.Component 2 })
unfolding fault_of view_of is_in_cycle region_set bit_of meets within closure step
understated = refl

-- a member of a cycle in mode pass
pub sealed_in_cycle : fault_of
    (record gossip {
      components =
          record (bodied (codes "a") (body.Module (codes "a.bloom"))) { mode = mode.Pass; key = item }
          ∷ bodied (codes "b") (body.Module (codes "b.bloom")) ∷ [];
    })
    (telling ∷ telling ∷ []) ≡ Some (record { kind = kind.SealInCycle; place = place.Component 1 })
unfolding fault_of view_of is_in_cycle region_set bit_of meets within closure step
sealed_in_cycle = refl
