-- The attributes of an allowed topology are names.
use Rattle.std.proofs.Common.{◌≡◌, inl, inr, Bool, true, false, if◌then◌else◌, is_some, List, [], ◌∷◌, ◌++◌, ℕ, codes, length, map, get_or, refl, subst, ◌∙◌}
use Rattle.std.specs.List.{list_all, flat_map, range_with_len}
use Rattle.std.proofs.lemmas.List.Folds.{list_all-append}
use Rattle.blz_value.specs.Members.{Has}
use Rattle.blz_value.specs.Name.{is_name}
use Rattle.blz_value.proofs.Membership.{Has-get_or, Has-from_map, Has-from_filter, Has-append_left, Has-flat_map, all_from, all_member}
use Rattle.blz_value.specs.Names.{place_of, added}
use Rattle.blz_value.proofs.Booleans.{and_true, both_true}
use Rattle.blz_value.proofs.Ranges.{Has-below as from_below}
use Rattle.bloom_forms.specs.declared.module.Collection.{Collection}
use Rattle.bloom_forms.specs.declared.module.Kind.TheVariants.{Input}
use Rattle.bloom_forms.specs.declared.program.Program.TheVariants as program
use Rattle.bloom_forms.specs.Checks.{IsChecked}
use Rattle.bloom_forms.specs.Form.{Accepted}
use Rattle.bloom_forms.specs.Kinds.{same_kind, of_kind}
use Rattle.bloom_forms.specs.Program.{key_columns}
use Rattle.bloom_forms.specs.Query.{Name}
use Rattle.bloom_forms.specs.Reserved.{is_own_name, module_names, query_names}
use Rattle.bloom_forms.specs.StockSteps.{keys_in_order}
use Rattle.topo_forms.specs.declared.topology.Body.{Body}
use Rattle.topo_forms.specs.declared.topology.Body.TheVariants as body
use Rattle.topo_forms.specs.declared.topology.ComponentEntry.{ComponentEntry}
use Rattle.topo_forms.specs.declared.topology.SourceEntry.{SourceEntry}
use Rattle.topo_forms.specs.declared.topology.Side.{Side}
use Rattle.topo_forms.specs.declared.topology.Stock.{Stock}
use Rattle.topo_forms.specs.declared.topology.Stock.TheVariants as stock
use Rattle.topo_forms.specs.declared.topology.Topology.{Topology}
use Rattle.topo_forms.specs.Allowed.{is_empty, are_names, are_some_names, is_side, allows_source, allows_body, allows_component, IsAllowed}
use Rattle.topo_forms.specs.Attributes.{with_columns, source_columns, side_columns}
use Rattle.topo_forms.specs.Sites.{sites_of, site_columns, attributes_in, ports_with, program_in, program_ports, stock_program, modules_after, column_number, collection_side, side}
use Rattle.topo_forms.proofs.Views.ViewRuns.{among_after}

-- ---- lists

-- what holds of the parts of each element holds of all parts
all_parts : {X Y : Type 0} (p : Y → Bool) (f : X → List Y) (xs : List X) → ((x : X) → Has x xs → list_all p (f x) ≡ true) → list_all p (flat_map f xs) ≡ true
all_parts p f [] each = refl
all_parts p f (x ∷ xs) each = list_all-append p (f x) (flat_map f xs) ∙ and_true _ _ (each x (inl refl)) (all_parts p f xs (λ y has. each y (inr has)))

none_of_empty : {X Y : Type 0} (p : Y → Bool) (f : X → List Y) (xs : List X) → is_empty xs ≡ true → list_all p (flat_map f xs) ≡ true
none_of_empty p f [] e = refl
none_of_empty p f (x ∷ xs) e = cc

-- ---- columns that are added

added-named : (names : List Name) (name : Name) → list_all is_name names ≡ true → is_name name ≡ true → list_all is_name (added names name) ≡ true
added-named names name all one = by (is_some (place_of names name))
  where
    by : (b : Bool) → list_all is_name (if b then names else names ++ name ∷ []) ≡ true
    by true = all
    by false = list_all-append is_name names (name ∷ []) ∙ and_true _ _ all (and_true _ _ one refl)

with_columns-named : (names columns : List Name) → list_all is_name names ≡ true → list_all is_name columns ≡ true → list_all is_name (with_columns names columns) ≡ true
with_columns-named names [] all more = all
with_columns-named names (c ∷ columns) all more =
    let both = both_true (is_name c) (list_all is_name columns) more in
    with_columns-named (added names c) columns (added-named names c all both.0) both.1

-- ---- ports

-- sides whose columns are names
sides-named : (sides : List Side) → list_all is_side sides ≡ true → list_all is_name (side_columns sides) ≡ true
sides-named sides all = all_parts is_name (λ (s : Side). s.columns) sides (λ s has. (both_true (is_name s.name) (are_names s.columns) (all_member is_side sides s all has)).1)

module-named : (m : Accepted) → IsChecked m.form m.heads → list_all is_name (side_columns (program_ports (program.Module m))) ≡ true
module-named m checked = all_parts is_name (λ (s : Side). s.columns) (program_ports (program.Module m)) each
  where
    cs : List Collection
    cs = m.form.collections

    named : (c : Collection) → Has c cs → (name : Name) → Has name c.columns → is_name name ≡ true
    named c has name column =
        let there : Has name (module_names m.form) = inr (Has-append_left name (flat_map (λ (d : Collection). d.name ∷ d.columns) cs) (flat_map (λ r. r.0 ∷ query_names r.1) m.form.rules) (Has-flat_map (λ (d : Collection). d.name ∷ d.columns) c name cs has (inr column))) in
        (both_true (is_name name) _ (all_member is_own_name (module_names m.form) name checked.names there)).0

    each : (s : Side) → Has s (map collection_side (of_kind Input cs)) → list_all is_name s.columns ≡ true
    each s has =
        let from = Has-from_map collection_side s (of_kind Input cs) has in
        let kept = Has-from_filter (λ (c : Collection). same_kind Input c.kind) from.0 cs from.1 in
        subst (λ (x : Side). list_all is_name x.columns ≡ true) from.2 (all_from is_name from.0.columns (λ name column. named from.0 kept.0 name column))

key_columns-named : (columns : List Name) (keys : List ℕ) → list_all is_name columns ≡ true → list_all is_name (key_columns columns keys) ≡ true
key_columns-named columns keys all = all_from is_name (key_columns columns keys) (λ name has.
    let from = Has-from_map (λ key. get_or columns key []) name (keys_in_order (length columns) keys) has in
    let kept = Has-from_filter _ from.0 (range_with_len 0 (length columns)) from.1 in
    subst (λ (x : Name). is_name x ≡ true) from.2 (all_member is_name columns (get_or columns from.0 []) all (Has-get_or columns from.0 [] (from_below (length columns) from.0 kept.0))))

one_side : (name : Name) (columns : List Name) → list_all is_name columns ≡ true → list_all is_name (side_columns (side name columns ∷ [])) ≡ true
one_side name columns all = list_all-append is_name columns [] ∙ and_true _ _ all refl

stock-named : (s : Stock) (inputs outputs : List Side) → allows_body (body.Stock s) inputs outputs ≡ true → list_all is_name (side_columns (program_ports (stock_program s))) ≡ true
stock-named (stock.Split columns split) inputs outputs allowed = one_side (codes "in") columns (both_true (are_names columns) _ (both_true _ _ allowed).0).0
stock-named (stock.Number columns) inputs outputs allowed = one_side (codes "in") columns (both_true _ _ allowed).0
stock-named (stock.Latest columns keys) inputs outputs allowed =
    let own = (both_true (are_names columns) _ (both_true _ _ allowed).0).0 in
    list_all-append is_name columns _ ∙ and_true _ _ own (one_side (codes "ask") (key_columns columns (map (column_number columns) keys)) (key_columns-named columns (map (column_number columns) keys) own))

module _ (c : ComponentEntry) where
  ports-named : (b : Body) (modules : List Accepted) → allows_body b c.inputs c.outputs ≡ true → ((m : Accepted) → Has m modules → IsChecked m.form m.heads) → list_all is_name (side_columns (ports_with c (program_in b modules))) ≡ true
  ports-named (body.Module file) [] allowed checked = none_of_empty is_name (λ (s : Side). s.columns) c.inputs (both_true (is_empty c.inputs) _ (both_true _ _ (both_true _ _ allowed).1).1).0
  ports-named (body.Module file) (m ∷ modules) allowed checked = module-named m (checked m (inl refl))
  ports-named (body.Stock s) modules allowed checked = stock-named s c.inputs c.outputs allowed
  ports-named body.None modules allowed checked = sides-named c.inputs (both_true (list_all is_side c.inputs) _ allowed).0

sites-named : (components : List ComponentEntry) (modules : List Accepted) → list_all allows_component components ≡ true → ((m : Accepted) → Has m modules → IsChecked m.form m.heads) → list_all is_name (site_columns (sites_of components modules)) ≡ true
sites-named [] modules allowed checked = refl
sites-named (c ∷ components) modules allowed checked =
    let both = both_true (allows_component c) (list_all allows_component components) allowed in
    let own = (both_true (allows_body c.body c.inputs c.outputs) _ (both_true (is_name c.name) _ both.0).1).0 in
    list_all-append is_name (side_columns (ports_with c (program_in c.body modules))) (site_columns (sites_of components (modules_after c.body modules)))
    ∙ and_true _ _ (ports-named c c.body modules own checked) (sites-named components (modules_after c.body modules) both.1 (λ m has. checked m (among_after c.body modules m has)))

-- ---- the attributes

pub attributes-named : (t : Topology) (modules : List Accepted) → IsAllowed t → ((m : Accepted) → Has m modules → IsChecked m.form m.heads) → list_all is_name (attributes_in t.sources (sites_of t.components modules)) ≡ true
attributes-named t modules allowed checked =
    let one = both_true _ _ allowed in
    let two = both_true (list_all allows_source t.sources) _ one.1 in
    let three = both_true (list_all allows_component t.components) _ two.1 in
    let sources = all_parts is_name (λ (s : SourceEntry). s.columns) t.sources (λ s has.
    let own = both_true (is_name s.name) _ (all_member allows_source t.sources s two.0 has) in
    let some = both_true (are_some_names s.columns) _ own.1 in
    (both_true _ (are_names s.columns) some.0).1) in
    with_columns-named (with_columns [] (source_columns t.sources)) (site_columns (sites_of t.components modules)) (with_columns-named [] (source_columns t.sources) refl sources) (sites-named t.components modules three.0 checked)
