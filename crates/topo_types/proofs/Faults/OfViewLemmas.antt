-- A note that names a port and an output has numbers for both.
use Rattle.std.proofs.Common.{◌≡◌, ◌<◌, ℕ, Bool, false, is_none, List, [], length, map, get_or, arith, ap, sym, subst, ◌∙◌}
use Rattle.std.specs.Str.{bytes_eq}
use Rattle.std.specs.List.{All}
use Rattle.std.proofs.lemmas.List.{length-map, get_or-map}
use Rattle.std.proofs.lemmas.List.FromFn.{get_or-map-range_with_len, length-range_with_len}
use Rattle.topo_forms.specs.declared.topology.Declared.{Declared}
use Rattle.topo_forms.specs.declared.topology.Side.{Side}
use Rattle.topo_types.specs.declared.view.sites.Site as held
use Rattle.topo_types.specs.Code.Built.{site_seen, sites_seen}
use Rattle.topo_types.specs.Code.OfView.{HasKnownNotes}
use Rattle.blz_value.specs.NumberSets.{below}
use Rattle.blz_value.proofs.Booleans.{neither}
use Rattle.topo_forms.specs.Sites.{Site, side, side_of, side_number}
use Rattle.topo_forms.specs.Validity.Unknown.{unknown_note}
use Rattle.topo_forms.proofs.Views.ViewParts.{find_here}

pub port_within : (site : Site) (note : Declared) → unknown_note site note ≡ false → side_number site.ports note.from < length site.ports
port_within site note known = (find_here (λ (s : Side). bytes_eq s.name note.from) site.ports (side [] []) (neither (is_none (side_of site.ports note.from)) (is_none (side_of site.outputs note.to)) known).0).0

pub output_within : (site : Site) (note : Declared) → unknown_note site note ≡ false → side_number site.outputs note.to < length site.outputs
output_within site note known = (find_here (λ (s : Side). bytes_eq s.name note.to) site.outputs (side [] []) (neither (is_none (side_of site.ports note.from)) (is_none (side_of site.outputs note.to)) known).1).0

-- what is told of each component is so
pub cycle_at : (f : ℕ → Bool) (n : ℕ) (told : List Bool) (i : ℕ) (d : Bool) → told ≡ map f (below n) → i < length told → get_or told i d ≡ f i
cycle_at f n told i d is lt =
    let many = ap length is ∙ length-map (below n) f in
    ap (λ (xs : List Bool). get_or xs i d) is ∙ get_or-map-range_with_len f 0 n i i d (omega (arith, lt, many, length-range_with_len 0 n)) (omega arith)

-- what holds of the notes of all components holds of those of one
pub known_item : (sites : List held.Site) (i : ℕ) (x : held.Site) → All HasKnownNotes (sites_seen sites) → i < length sites → x ≡ get_or sites i x → HasKnownNotes (site_seen x)
known_item sites i x all lt is =
    subst HasKnownNotes (get_or-map site_seen sites i x (site_seen x) lt ∙ ap site_seen (sym is)) (all i (site_seen x) (omega (arith, lt, length-map sites site_seen)))
