-- A stream that is read a part after the other is the one that is read field by field.
use Rattle.std.proofs.Common.{◌≡◌, [], ◌∷◌, Result, Ok, Err, codes, refl, subst}
use Rattle.toml.specs.Data.{Members}
use Rattle.topo_forms.specs.declared.topology.StreamEntry.{StreamEntry}
use Rattle.topo_read.specs.declared.entries.Flow.{Flow}
use Rattle.topo_read.specs.declared.fault.TopoTextFault.{TopoTextFault}
use Rattle.topo_read.specs.Gives.{Gives}
use Rattle.topo_read.specs.Values.{name_in, spot_in}
use Rattle.topo_read.specs.Fields.{◌>>=◌, Path, required, optional_list, only_keys}
use Rattle.topo_read.specs.Entries.{stream_of}
use Rattle.topo_read.specs.Code.StreamParts.{flow_of, by_parts}
use Rattle.topo_read.proofs.Steps.{inner, after}

flow_steps : (table : Members) (next : Flow → Result StreamEntry Path) → (flow_of table >>= next) ≡ (required spot_in (codes "from") table >>= (λ from. optional_list spot_in (codes "to") table >>= (λ to. only_keys (codes "name" ∷ codes "from" ∷ codes "to" ∷ []) table >>= (λ only. next (record { from = from; to = to })))))
unfolding flow_of
flow_steps table next =
    inner (required spot_in (codes "from") table) _ next _ (λ from.
    inner (optional_list spot_in (codes "to") table) _ next _ (λ to.
    inner (only_keys (codes "name" ∷ codes "from" ∷ codes "to" ∷ []) table) _ next _ (λ only. refl)))

by_steps : (table : Members) → by_parts table ≡ stream_of table
unfolding by_parts stream_of
by_steps table = after (required name_in (codes "name") table) _ _ (λ name. flow_steps table _)

-- what is given by parts is given of the whole
pub is_whole : (r : Result StreamEntry TopoTextFault) (table : Members) → Gives (λ (x : StreamEntry). x) r (by_parts table) → Gives (λ (x : StreamEntry). x) r (stream_of table)
is_whole r table given = subst (λ (m : Result StreamEntry Path). Gives (λ (x : StreamEntry). x) r m) (by_steps table) given
