-- In the new topology there are as many modules as components with one.
use Rattle.std.proofs.Common.{◌≡◌, ◌∙◌, ◌+◌, ℕ, suc, Bool, true, false, if◌then◌else◌, List, [], ◌∷◌, ◌++◌, length, map, refl, ap, sym, arith, length-append}
use Rattle.std.specs.List.{filter_map, flat_map, cons_option}
use Rattle.std.specs.Str.{bytes_eq}
use Rattle.std.proofs.lemmas.List.Elements.{filter_map-append}
use Rattle.bloom_forms.specs.Form.{Accepted}
use Rattle.bloom_forms.specs.Query.{Name}
use Rattle.topo_forms.specs.declared.topology.ComponentEntry.{ComponentEntry}
use Rattle.topo_forms.specs.declared.topology.Body.{Body}
use Rattle.topo_forms.specs.declared.topology.Body.TheVariants as body
use Rattle.topo_forms.specs.Sites.{modules_after}
use Rattle.topo_forms.specs.Valid.{needs_module, file_in}
use Rattle.shard_route.specs.Routing.{copied_component, sharded_component, own_module, sharded_modules}

-- each copy has a module
copied_files : (c : ComponentEntry) (numbers : List ℕ) → length (filter_map needs_module (map (copied_component c) numbers)) ≡ length numbers
copied_files c [] = refl
copied_files c (i ∷ numbers) = ap suc (copied_files c numbers)

-- the modules that are left, where there are as many as components with one
left_over : (b : Body) (rest : List Name) (modules : List Accepted) → length modules ≡ length (cons_option (file_in b) rest) → length (modules_after b modules) ≡ length rest
left_over (body.Module file) rest [] e = absurd (omega (arith, e))
left_over (body.Module file) rest (m ∷ modules) e = omega (arith, e)
left_over (body.Stock s) rest modules e = e
left_over body.None rest modules e = e

own_count : (b : Body) (rest : List Name) (modules : List Accepted) (more : List Name) → length modules ≡ length (cons_option (file_in b) rest)
    → length (own_module b modules) + length more ≡ length (cons_option (file_in b) more)
own_count (body.Module file) rest [] more e = absurd (omega (arith, e))
own_count (body.Module file) rest (m ∷ modules) more e = omega arith
own_count (body.Stock s) rest modules more e = omega arith
own_count body.None rest modules more e = omega arith

pub each_module : (name : Name) (numbers : List ℕ) (copies : List Accepted) → length copies ≡ length numbers → (components : List ComponentEntry) (modules : List Accepted)
    → length modules ≡ length (filter_map needs_module components)
    → length (sharded_modules name copies components modules) ≡ length (filter_map needs_module (flat_map (sharded_component name numbers) components))
each_module name numbers copies same [] modules e = refl
each_module name numbers copies same (c ∷ components) modules e =
    go (bytes_eq c.name name) (each_module name numbers copies same components (modules_after c.body modules) (left_over c.body (filter_map needs_module components) modules e))
  where
    others : List ComponentEntry
    others = flat_map (sharded_component name numbers) components

    rest : List Accepted
    rest = sharded_modules name copies components (modules_after c.body modules)

    go : (b : Bool) → length rest ≡ length (filter_map needs_module others) → length ((if b then copies else own_module c.body modules) ++ rest) ≡ length (filter_map needs_module ((if b then map (copied_component c) numbers else c ∷ []) ++ others))
    go true more = length-append copies rest ∙ (λ i. same i + more i) ∙ sym (ap length (filter_map-append needs_module (map (copied_component c) numbers) others) ∙ length-append (filter_map needs_module (map (copied_component c) numbers)) (filter_map needs_module others) ∙ ap (λ n. n + length (filter_map needs_module others)) (copied_files c numbers))
    go false more = length-append (own_module c.body modules) rest ∙ ap (λ n. length (own_module c.body modules) + n) more ∙ own_count c.body (filter_map needs_module components) modules (filter_map needs_module others) e
