-- The numbers of components, and of ports and outputs, by the first place of a name.
use Rattle.std.proofs.Common.{◌≡◌, ◌≤◌, inl, inr, nat_lt, Bool, List, [], ◌∷◌, map, length, unwrap_or, refl, arith, ◌∙◌}
use Rattle.std.specs.Prelude.{position}
use Rattle.std.specs.List.{position_or_len}
use Rattle.std.specs.Str.{bytes_eq}
use Rattle.std.proofs.lemmas.Bool.{cases_Bool}
use Rattle.std.proofs.lemmas.Bool.Decides.{nat_tests}
use Rattle.bloom_forms.specs.Query.{Name}
use Rattle.topo_graph.proofs.Positions.{from_place}
use Rattle.topo_forms.specs.declared.topology.Side.{Side}
use Rattle.topo_types.specs.declared.view.sites.Site as code
use Rattle.topo_types.specs.Code.Built.{sites_seen, site_seen}
use Rattle.topo_forms.specs.Sites.{side_number, site_number}

place_map : {X Y : Type 0} (p : Y → Bool) (f : X → Y) (xs : List X) → position_or_len (λ x. p (f x)) xs ≡ position_or_len p (map f xs)
place_map p f [] = refl
place_map p f (x ∷ xs) = elim (cases_Bool (p (f x))) [
  | inl t ↦ rw t refl
  | inr f' ↦ let more = place_map p f xs in rw (f', more) refl
]

-- the number of a port or an output
pub side_place : (sides : List Side) (name : Name) → unwrap_or (position (λ (s : Side). bytes_eq s.name name) sides) (length sides) ≡ side_number sides name
side_place sides name = from_place (λ (s : Side). bytes_eq s.name name) sides

-- the number of a component
pub site_place : (sites : List code.Site) (name : Name) → unwrap_or (position (λ (s : code.Site). bytes_eq s.entry.now.name name) sites) (length sites) ≡ site_number (sites_seen sites) name
site_place sites name = from_place (λ (s : code.Site). bytes_eq s.entry.now.name name) sites ∙ place_map (λ site. bytes_eq site.entry.name name) site_seen sites
