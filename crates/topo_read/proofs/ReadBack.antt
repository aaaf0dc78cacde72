-- What is written is read as the same topology; and it nests few levels deep.
use Rattle.std.proofs.Common.{◌≡◌, ◌≤◌, ◌+◌, ◌&&◌, ◌||◌, inl, inr, ℕ, ℤ, pos, Bool, true, false, if◌then◌else◌, Option, None, Some, Result, Ok, List, [], ◌∷◌, length, map, codes, refl, arith, ap, sym, subst, ◌∙◌}
use Rattle.std.specs.List.{list_all}
use Rattle.std.proofs.lemmas.Bool.{true≢false}
use Rattle.blz_value.specs.Members.{Has}
use Rattle.blz_value.proofs.Membership.{all_member}
use Rattle.blz_value.proofs.Booleans.{both_true as both}
use Rattle.toml.specs.Data.{Data, string, integer, depth, items_depth, members_depth, Members, as_table, get_member}
use Rattle.toml.specs.View.{items_of}
use Rattle.topo_forms.specs.declared.topology.ColumnType.{ColumnType}
use Rattle.topo_forms.specs.declared.topology.ColumnType.TheVariants as type
use Rattle.topo_forms.specs.declared.topology.ComponentEntry.{ComponentEntry}
use Rattle.topo_forms.specs.declared.topology.FdEntry.{FdEntry}
use Rattle.topo_forms.specs.declared.topology.SourceEntry.{SourceEntry}
use Rattle.topo_forms.specs.declared.topology.StreamEntry.{StreamEntry}
use Rattle.topo_forms.specs.declared.topology.Topology.{Topology}
use Rattle.topo_forms.specs.Allowed.{IsAllowed, allows_source, allows_component, allows_stream, allows_fd}
use Rattle.topo_read.specs.declared.values.Format.TheVariants.{Two}
use Rattle.topo_read.specs.Component.{component_of}
use Rattle.topo_read.specs.Entries.{source_of, stream_of, fd_of}
use Rattle.topo_read.specs.Fields.{Path}
use Rattle.topo_read.specs.Fill.{Field, table_with, table_data, unless_empty}
use Rattle.topo_read.specs.Laws.{ReadBack}
use Rattle.topo_read.specs.Tables.{none_or_list}
use Rattle.topo_read.specs.Topology.{tables_at, numbered, entries_from, topology_of}
use Rattle.topo_read.specs.Values.{format_in}
use Rattle.topo_read.specs.Written.{source_fields, component_fields, stream_fields, fd_fields, topology_fields, table_of}
use Rattle.topo_read.proofs.Filled.{at_field}
use Rattle.topo_read.proofs.ReadBackValues.{all_give}
use Rattle.topo_read.proofs.ReadBackEntries.{next, takes, list, only, source_reads, stream_reads, fd_reads}
use Rattle.topo_read.proofs.ReadBackComponents.{component_reads}

tables_given : {X : Type 0} (fields_of : X → List Field) (xs : List X) → none_or_list as_table (unless_empty (λ x. table_data (fields_of x)) xs) ≡ Some (map (λ x. table_with (fields_of x)) xs)
tables_given fields_of [] = refl
tables_given fields_of (x ∷ xs) = all_give as_table (λ y. table_data (fields_of y)) (λ y. table_with (fields_of y)) (x ∷ xs) (λ y has. refl)

tables_back : {X : Type 0} (m : Members) (key : List ℕ) (fields_of : X → List Field) (xs : List X) → get_member key m ≡ unless_empty (λ x. table_data (fields_of x)) xs → tables_at key m ≡ Ok (map (λ x. table_with (fields_of x)) xs)
tables_back m key fields_of xs is = list m key as_table (unless_empty (λ x. table_data (fields_of x)) xs) (map (λ x. table_with (fields_of x)) xs) is (tables_given fields_of xs)

entries_back : {X : Type 0} (read : Members → Result X Path) (f : X → Members) (name : List ℕ) (n : ℕ) (xs : List X) → ((x : X) → Has x xs → read (f x) ≡ Ok x) → entries_from read name n (map f xs) ≡ Ok xs
entries_back read f name n [] each = refl
entries_back read f name n (x ∷ xs) each =
    next _ (ap (numbered name n) (each x (inl refl))) (next _ (entries_back read f name (n + 1) xs (λ y has. each y (inr has))) refl)

pub read_back : ReadBack
unfolding topology_of table_of
read_back t allowed two =
    let fs : List Field = topology_fields t in
    let m : Members = table_with (topology_fields t) in
    let one = both _ _ allowed in
    let sources = both (list_all allows_source t.sources) _ one.1 in
    let components = both (list_all allows_component t.components) _ sources.1 in
    let streams = both (list_all allows_stream t.streams) (list_all (allows_fd t.format) t.fds) components.1 in
    let fds : list_all (allows_fd 2) t.fds ≡ true = subst (λ (n : ℕ). list_all (allows_fd n) t.fds ≡ true) two streams.1 in
    next _ (takes m (codes "format") format_in (integer (pos 2)) Two (at_field (codes "format") fs refl) refl)
    (next _ (tables_back m (codes "source") source_fields t.sources (at_field (codes "source") fs refl))
    (next _ (tables_back m (codes "component") component_fields t.components (at_field (codes "component") fs refl))
    (next _ (tables_back m (codes "stream") stream_fields t.streams (at_field (codes "stream") fs refl))
    (next _ (tables_back m (codes "fd") fd_fields t.fds (at_field (codes "fd") fs refl))
    (next _ (only (codes "format" ∷ codes "source" ∷ codes "component" ∷ codes "stream" ∷ codes "fd" ∷ []) fs refl)
    (next _ (entries_back (source_of Two) (λ s. table_with (source_fields s)) (codes "source") 1 t.sources (λ s has. source_reads s (all_member allows_source t.sources s sources.0 has)))
    (next _ (entries_back component_of (λ c. table_with (component_fields c)) (codes "component") 1 t.components (λ c has. component_reads c (all_member allows_component t.components c components.0 has)))
    (next _ (entries_back stream_of (λ s. table_with (stream_fields s)) (codes "stream") 1 t.streams (λ s has. stream_reads s (all_member allows_stream t.streams s streams.0 has)))
    (next _ (entries_back (fd_of Two) (λ fd. table_with (fd_fields fd)) (codes "fd") 1 t.fds (λ fd has. fd_reads fd (all_member (allows_fd 2) t.fds fd fds has)))
    (ap (λ (n : ℕ). Ok (record t { format = n })) (sym two)))))))))))
