-- A dependency that is not usable: streams have its first side without its second.
use Rattle.std.proofs.Common.{◌≡◌, pos, refl, true, None, List, [], ◌∷◌, map}
use Rattle.std.specs.Prelude.{codes}
use Rattle.blz_value.specs.Bits.{bit_of, meets}
use Rattle.blz_value.specs.Closure.{within, closure, step}
use Rattle.bloom_forms.specs.declared.expr.NamedAgg.TheVariants.{Count}
use Rattle.bloom_forms.specs.declared.module.Kind.TheVariants.{Input, Output, Table}
use Rattle.bloom_forms.specs.Form.{Accepted}
use Rattle.bloom_forms.specs.Query.{Name}
use Rattle.bloom_forms.specs.Query.Query.{base, group, project}
use Rattle.topo_forms.specs.declared.topology.Body.TheVariants as body
use Rattle.topo_forms.specs.declared.topology.ModeName.TheVariants as written
use Rattle.topo_forms.specs.declared.topology.SourceEntry.{SourceEntry}
use Rattle.topo_forms.specs.declared.topology.Spot.{Spot}
use Rattle.topo_forms.specs.declared.topology.Topology.{Topology}
use Rattle.topo_forms.specs.Carried.{carries, carriers}
use Rattle.topo_forms.specs.Dependencies.{usable_fds, upholders, upholds}
use Rattle.topo_forms.specs.Regions.{is_in_cycle, region_set}
use Rattle.topo_forms.specs.View.{View, fd_at}
use Rattle.topo_forms.specs.ViewOf.{view_of}
use Rattle.topo_forms.proofs.Worked.WordCount.{spot, stream}

abbrev pub a_k : List Name
a_k = codes "a" ∷ codes "k" ∷ []

abbrev pub sums_module : Accepted
sums_module = record {
  form = record {
    name = codes "sums";
    collections =
        record { kind = Input; name = codes "clicks"; columns = codes "a" ∷ codes "k" ∷ codes "u" ∷ [] }
        ∷ record { kind = Input; name = codes "asks"; columns = a_k }
        ∷ record { kind = Output; name = codes "sums"; columns = codes "a" ∷ codes "n" ∷ [] }
        ∷ record { kind = Table; name = codes "seen"; columns = a_k }
        ∷ [];
    rules =
        (codes "seen", project (base (codes "clicks")) ((codes "a", codes "a") ∷ (codes "k", codes "k") ∷ []))
        ∷ (codes "seen", project (base (codes "asks")) ((codes "a", codes "a") ∷ (codes "k", codes "k") ∷ []))
        ∷ (codes "sums", group (base (codes "seen")) (codes "a" ∷ []) Count (codes "n"))
        ∷ [];
  };
  heads = 3 ∷ 2 ∷ [];
}

abbrev pub source : Name → List Name → List Name → List Spot → SourceEntry
source name columns seal to = record { name = name; columns = columns; types = []; seal = seal; to = to }

abbrev pub unusable : Topology
unusable = record {
  format = 2;
  sources =
      source (codes "clicks") (codes "a" ∷ codes "k" ∷ codes "u" ∷ []) (codes "k" ∷ []) (spot (codes "c") (codes "clicks") ∷ [])
      ∷ source (codes "asks") a_k (codes "k" ∷ []) (spot (codes "c") (codes "asks") ∷ [])
      ∷ source (codes "names") (codes "b" ∷ []) [] []
      ∷ [];
  components = record { name = codes "c"; body = body.Module (codes "c.bloom"); inputs = []; outputs = []; notes = []; replicas = pos 1; mode = written.Seal; key = codes "k" ∷ [] } ∷ [];
  streams = stream (codes "sums") (spot (codes "c") (codes "sums")) [] ∷ [];
  fds =
      record { from = codes "a" ∷ []; to = codes "b" ∷ [] }
      ∷ record { from = codes "b" ∷ []; to = codes "k" ∷ [] }
      ∷ [];
}

abbrev pub unusable_view : View
unusable_view = view_of unusable (sums_module ∷ [])

-- all streams uphold both dependencies, each of which they lack a column of
pub all_uphold : map (λ n. map (upholds unusable_view (fd_at unusable_view n)) (0 ∷ 1 ∷ 2 ∷ 3 ∷ [])) (0 ∷ 1 ∷ [])
    ≡ (true ∷ true ∷ true ∷ true ∷ []) ∷ (true ∷ true ∷ true ∷ true ∷ []) ∷ []
unfolding view_of upholders is_in_cycle region_set bit_of meets within closure step
all_uphold = refl

-- at the component only the one from b to k is usable; the attributes are a 0, k 1, u 2, b 3
pub one_usable : usable_fds unusable_view 0 ≡ record { from = record { bits = 8 }; to = record { bits = 2 } } ∷ []
unfolding view_of usable_fds upholders is_in_cycle region_set bit_of meets within closure step
one_usable = refl

-- so the sums carry nothing
pub none_carried : carries unusable_view 3 ≡ None
unfolding view_of carries carriers usable_fds upholders is_in_cycle region_set bit_of meets within closure step
none_carried = refl
