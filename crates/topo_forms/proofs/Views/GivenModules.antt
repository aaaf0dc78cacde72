-- The modules of a view are those that were given.
use Rattle.std.proofs.Common.{◌≡◌, suc, Option, None, List, [], ◌∷◌, length, map, refl, arith, ap, ◌∙◌}
use Rattle.std.specs.List.{filter_map}
use Rattle.std.specs.Option.{option_and_then}
use Rattle.bloom_forms.specs.Form.{Accepted}
use Rattle.topo_forms.specs.declared.topology.Body.{Body}
use Rattle.topo_forms.specs.declared.topology.Body.TheVariants as body
use Rattle.topo_forms.specs.declared.topology.ComponentEntry.{ComponentEntry}
use Rattle.topo_forms.specs.declared.topology.Stock.{Stock}
use Rattle.topo_forms.specs.declared.topology.Stock.TheVariants as stock
use Rattle.topo_forms.specs.Laws.{ModulesLaw}
use Rattle.topo_forms.specs.Sites.{Site, sites_of, stock_program, attributes_in}
use Rattle.topo_forms.specs.Valid.{needs_module}
use Rattle.topo_forms.specs.View.{Component}
use Rattle.topo_forms.specs.ViewOf.{view_of, component_view, module_of}

-- the module that a component of a view runs, and that of a site
abbrev run_by : Component → Option Accepted
run_by c = option_and_then module_of c.program

abbrev run_at : Site → Option Accepted
run_at site = option_and_then module_of site.program

map_alike : {X Y Z : Type 0} (f : Y → Option Z) (g : X → Option Z) (h : X → Y) (xs : List X) → ((x : X) → f (h x) ≡ g x) → filter_map f (map h xs) ≡ filter_map g xs
map_alike f g h [] same = refl
map_alike f g h (x ∷ xs) same = rw (same x, map_alike f g h xs same) refl

stock_runs : (s : Stock) → module_of (stock_program s) ≡ None
stock_runs (stock.Split columns split) = refl
stock_runs (stock.Latest columns keys) = refl
stock_runs (stock.Number columns) = refl

-- the modules of sites are those that were given, where there are as many as are needed
of_sites : (components : List ComponentEntry) (modules : List Accepted) → length modules ≡ length (filter_map needs_module components) → filter_map run_at (sites_of components modules) ≡ modules
of_sites [] [] e = refl
of_sites [] (m ∷ modules) e = absurd (omega (arith, e))
of_sites (c ∷ components) modules e = by c.body refl modules e (λ given fits. of_sites components given fits)
  where
    by : (b : Body) → c.body ≡ b → (given : List Accepted) → length given ≡ length (filter_map needs_module (c ∷ components))
        → ((rest : List Accepted) → length rest ≡ length (filter_map needs_module components) → filter_map run_at (sites_of components rest) ≡ rest)
        → filter_map run_at (sites_of (c ∷ components) given) ≡ given
    by (body.Module file) is [] fits more = absurd (let many : 0 ≡ suc (length (filter_map needs_module components)) = rw is at fits in omega (arith, many))
    by (body.Module file) is (m ∷ given) fits more = let fewer : suc (length given) ≡ suc (length (filter_map needs_module components)) = rw is at fits in rw is (ap (λ (ms : List Accepted). m ∷ ms) (more given (omega (arith, fewer))))
    by (body.Stock s) is given fits more = let fewer : length given ≡ length (filter_map needs_module components) = rw is at fits in rw (is, stock_runs s) (more given fewer)
    by body.None is given fits more = let fewer : length given ≡ length (filter_map needs_module components) = rw is at fits in rw is (more given fewer)

pub modules_law : ModulesLaw
unfolding view_of
modules_law t modules given = map_alike run_by run_at (component_view (attributes_in t.sources (sites_of t.components modules))) (sites_of t.components modules) (λ site. refl) ∙ of_sites t.components modules given.each
