-- A source that is read a part after the other is the one that is read field by field.
use Rattle.std.proofs.Common.{◌≡◌, ◌∙◌, Result, Ok, Err, codes, refl, subst}
use Rattle.toml.specs.Data.{Members}
use Rattle.topo_forms.specs.declared.topology.SourceEntry.{SourceEntry}
use Rattle.topo_read.specs.declared.entries.Leading.{Leading}
use Rattle.topo_read.specs.declared.entries.Typed.{Typed}
use Rattle.topo_read.specs.declared.fault.TopoTextFault.{TopoTextFault}
use Rattle.topo_read.specs.declared.values.Format.{Format}
use Rattle.topo_read.specs.Gives.{Gives}
use Rattle.topo_read.specs.Values.{name_in, some_names_in, spot_in}
use Rattle.topo_read.specs.Fields.{◌>>=◌, Path, required, optional, optional_list, only_keys}
use Rattle.topo_read.specs.Entries.{types_of, or_no_names, source_keys, source_of}
use Rattle.topo_read.specs.Code.SourceParts.{typed_of, leading_of, by_parts}
use Rattle.topo_read.proofs.Steps.{inner, after}

typed_steps : (format : Format) (table : Members) (next : Typed → Result SourceEntry Path) → (typed_of format table >>= next) ≡ (required some_names_in (codes "columns") table >>= (λ columns. types_of format columns table >>= (λ types. next (record { columns = columns; types = types }))))
unfolding typed_of
typed_steps format table next =
    inner (required some_names_in (codes "columns") table) _ next _ (λ columns.
    inner (types_of format columns table) _ next _ (λ types. refl))

leading_steps : (format : Format) (table : Members) (next : Leading → Result SourceEntry Path) → (leading_of format table >>= next) ≡ (optional some_names_in (codes "seal") table >>= (λ seal. optional_list spot_in (codes "to") table >>= (λ to. only_keys (source_keys format) table >>= (λ only. next (record { seal = or_no_names seal; to = to })))))
unfolding leading_of
leading_steps format table next =
    inner (optional some_names_in (codes "seal") table) _ next _ (λ seal.
    inner (optional_list spot_in (codes "to") table) _ next _ (λ to.
    inner (only_keys (source_keys format) table) _ next _ (λ only. refl)))

by_steps : (format : Format) (table : Members) → by_parts format table ≡ source_of format table
unfolding by_parts source_of
by_steps format table =
    after (required name_in (codes "name") table) _ _ (λ name.
    typed_steps format table _ ∙ after (required some_names_in (codes "columns") table) _ _ (λ columns.
    after (types_of format columns table) _ _ (λ types. leading_steps format table _)))

-- what is given by parts is given of the whole
pub is_whole : (r : Result SourceEntry TopoTextFault) (format : Format) (table : Members) → Gives (λ (x : SourceEntry). x) r (by_parts format table) → Gives (λ (x : SourceEntry). x) r (source_of format table)
is_whole r format table given = subst (λ (m : Result SourceEntry Path). Gives (λ (x : SourceEntry). x) r m) (by_steps format table) given
