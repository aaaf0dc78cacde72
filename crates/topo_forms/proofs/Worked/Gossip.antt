-- Gossip: its topology, its modules and its regions.
use Rattle.std.proofs.Common.{◌≡◌, refl, true, false, List, [], ◌∷◌, map}
use Rattle.std.specs.Prelude.{codes}
use Rattle.blz_value.specs.Bits.{bit_of, meets}
use Rattle.blz_value.specs.Closure.{within, closure, step}
use Rattle.bloom_forms.specs.declared.expr.NamedAgg.TheVariants.{Count}
use Rattle.bloom_forms.specs.declared.module.Kind.TheVariants.{Input, Output, Table}
use Rattle.bloom_forms.specs.Form.{Accepted}
use Rattle.bloom_forms.specs.Query.{Name, Query}
use Rattle.bloom_forms.specs.Query.Query.{base, group, project}
use Rattle.bloom_forms.specs.declared.mode.Mode.TheVariants as mode
use Rattle.topo_forms.specs.declared.topology.Body.TheVariants as body
use Rattle.topo_forms.specs.declared.topology.Topology.{Topology}
use Rattle.topo_forms.specs.Regions.{regions, is_cyclic}
use Rattle.topo_forms.specs.View.{with_mode}
use Rattle.topo_forms.specs.ViewOf.{view_of}
use Rattle.topo_forms.proofs.Worked.WordCount.{spot, bodied, stream}

abbrev pub item : List Name
item = codes "item" ∷ []

-- a member with this body of `tells`
abbrev pub member : Query → Accepted
member tells = record {
  form = record {
    name = codes "gossip";
    collections =
        record { kind = Input; name = codes "told"; columns = item }
        ∷ record { kind = Output; name = codes "tells"; columns = item }
        ∷ record { kind = Table; name = codes "known"; columns = item }
        ∷ [];
    rules = (codes "known", base (codes "told")) ∷ (codes "tells", tells) ∷ [];
  };
  heads = 2 ∷ 1 ∷ [];
}

abbrev pub telling : Accepted
telling = member (base (codes "known"))

abbrev pub grouping : Accepted
grouping = member (project (group (base (codes "known")) item Count (codes "n")) ((codes "item", codes "item") ∷ []))

abbrev pub gossip : Topology
gossip = record {
  format = 2;
  sources = record { name = codes "news"; columns = item; types = []; seal = []; to = spot (codes "a") (codes "told") ∷ [] } ∷ [];
  components = bodied (codes "a") (body.Module (codes "a.bloom")) ∷ bodied (codes "b") (body.Module (codes "b.bloom")) ∷ [];
  streams =
      stream (codes "ta") (spot (codes "a") (codes "tells")) (spot (codes "b") (codes "told") ∷ [])
      ∷ stream (codes "tb") (spot (codes "b") (codes "tells")) (spot (codes "a") (codes "told") ∷ [])
      ∷ [];
  fds = [];
}

-- both components are one cyclic region
pub gossip_regions : regions (view_of gossip (telling ∷ telling ∷ [])) ≡ 3 ∷ []
unfolding view_of regions bit_of meets within closure step
gossip_regions = refl

pub gossip_cycle : is_cyclic (view_of gossip (telling ∷ telling ∷ [])) 0 ≡ true
unfolding view_of regions bit_of meets within closure step
gossip_cycle = refl

-- with b in mode order no stream into b counts: b is the first region, a the second, and neither is cyclic
pub ordered_regions : regions (with_mode (view_of gossip (telling ∷ telling ∷ [])) 1 mode.Order) ≡ 2 ∷ 1 ∷ []
unfolding view_of regions bit_of meets within closure step
ordered_regions = refl

pub ordered_acyclic : map (is_cyclic (with_mode (view_of gossip (telling ∷ telling ∷ [])) 1 mode.Order)) (0 ∷ 1 ∷ []) ≡ false ∷ false ∷ []
unfolding view_of regions bit_of meets within closure step
ordered_acyclic = refl
