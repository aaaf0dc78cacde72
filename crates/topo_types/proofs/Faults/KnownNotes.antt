-- Where the kind Unknown names nothing, each note is of a port and of an output that are there.
use Rattle.std.proofs.Common.{◌≡◌, ◌<◌, not, ℕ, None, List, length, get_or, subst}
use Rattle.std.specs.List.{All}
use Rattle.std.proofs.lemmas.List.{get_or_default}
use Rattle.blz_value.proofs.Membership.{Has-get_or}
use Rattle.blz_value.proofs.Booleans.{neither}
use Rattle.bloom_forms.specs.Form.{Accepted}
use Rattle.topo_forms.specs.declared.fault.TopoKind.TheVariants as kind
use Rattle.topo_forms.specs.declared.topology.Topology.{Topology}
use Rattle.topo_types.specs.Code.OfView.{HasKnownNotes}
use Rattle.topo_forms.specs.Sites.{Site, no_site, sites_of}
use Rattle.topo_forms.specs.Validity.{written, kind_fault}
use Rattle.topo_forms.specs.Validity.Twice.{names_within}
use Rattle.topo_forms.specs.Validity.Unknown.{misses_attribute, misses_note, unknown_note, unknown_in_body}
use Rattle.topo_types.proofs.Faults.EarlyKinds.{site_fine}
use Rattle.topo_forms.proofs.Regions.Numbering.{any-none}

module _ (t : Topology) (modules : List Accepted) (known : kind_fault kind.Unknown (written t modules) ≡ None) where
  abbrev sites : List Site
  sites = sites_of t.components modules

  notes_at : (i : ℕ) → i < length sites → HasKnownNotes (get_or sites i no_site)
  notes_at i lt j e le =
      let site = get_or sites i no_site in
      let names = (written t modules).view.attributes in
      let a = neither (unknown_in_body site.entry.body) _ (site_fine t modules kind.Unknown known i lt) in
      let b = neither (not (names_within site.entry.key names)) _ a.1 in
      let c = neither (misses_attribute names site.entry.notes) (misses_note site site.entry.notes) b.1 in
      any-none (unknown_note site) site.entry.notes c.1 (get_or site.entry.notes j e) (Has-get_or site.entry.notes j e le)

  pub known_notes : All HasKnownNotes sites
  known_notes i d lt = subst HasKnownNotes (get_or_default sites i no_site d lt) (notes_at i lt)
