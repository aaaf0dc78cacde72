-- Where the kinds TooMany, Twice and Unknown name nothing, the components are as the making of a view asks.
use Rattle.std.proofs.Common.{◌≡◌, ◌≤◌, ◌<◌, ◌+◌, inl, inr, not, ℕ, ℤ, pos, negsuc, nat_eq, true, false, Option, None, Some, List, length, take, get_or, refl, arith, ap, sym, subst, ◌∙◌}
use Rattle.std.specs.List.{All}
use Rattle.std.proofs.lemmas.Bool.Decides.{nat_tests}
use Rattle.std.proofs.lemmas.List.{get_or_default}
use Rattle.blz_value.specs.FirstPlace.{first_place}
use Rattle.blz_value.proofs.FirstPlace.{none_bad}
use Rattle.blz_value.proofs.Booleans.{not_false, neither}
use Rattle.bloom_forms.specs.declared.program.Program.{Program}
use Rattle.bloom_forms.specs.Form.{Accepted}
use Rattle.bloom_forms.specs.Program.{IsStock}
use Rattle.bloom_forms.proofs.Faults.Firsts.{bad_number}
use Rattle.bloom_forms.proofs.Reach.ProperLemmas.{proper_is_stock}
use Rattle.topo_forms.specs.declared.fault.TopoKind.{TopoKind}
use Rattle.topo_forms.specs.declared.fault.TopoKind.TheVariants as kind
use Rattle.topo_forms.specs.declared.topology.Body.{Body}
use Rattle.topo_forms.specs.declared.topology.Body.TheVariants as body
use Rattle.topo_forms.specs.declared.topology.ComponentEntry.{ComponentEntry}
use Rattle.topo_forms.specs.declared.topology.Side.{Side}
use Rattle.topo_forms.specs.declared.topology.Stock.{Stock}
use Rattle.topo_forms.specs.declared.topology.Stock.TheVariants as stock
use Rattle.topo_forms.specs.declared.topology.Topology.{Topology}
use Rattle.topo_types.specs.Code.Built.{IsBuilt, RunsStock}
use Rattle.topo_forms.specs.Validity.{written, bad_source, bad_component, bad_stream, bad_fd, kind_fault}
use Rattle.topo_forms.specs.Validity.TooMany.{has_wide, are_many, is_replica_count}
use Rattle.topo_forms.specs.Validity.Twice.{has_component, repeat_in, repeats_in_body}
use Rattle.topo_forms.specs.Validity.Unknown.{unknown_in_body}
use Rattle.topo_forms.specs.Sites.{Site, no_site, no_entry, sites_of, site_at, stock_program, program_ports, program_in, ports_with, outputs_with}
use Rattle.topo_forms.specs.ViewOf.{count_from}
use Rattle.topo_forms.proofs.Faults.NoFault.{no_places, above, length_sites}
use Rattle.topo_forms.proofs.Views.ViewRuns.{Made, made, program_cases, proper_stock}

-- one to eight replicas
few_of : (z : ℤ) → is_replica_count z ≡ true → count_from z ≤ 8
few_of (pos n) e = grind (arith, nat_tests)
few_of (negsuc n) e = omega arith

module _ (t : Topology) (modules : List Accepted) where
  abbrev sites : List Site
  sites = sites_of t.components modules

  pub site_fine : (k : TopoKind) → kind_fault k (written t modules) ≡ None → (i : ℕ) → i < length sites → bad_component k (written t modules) i (get_or sites i no_site) ≡ false
  site_fine k none i lt =
      let w = written t modules in
      let places = no_places k (first_place (bad_source k w) 0 t.sources) (first_place (bad_component k w) 0 sites) (first_place (bad_stream k w) 0 t.streams) (first_place (bad_fd k w) 0 t.fds) none in
      let z : 0 + i ≡ i = omega arith in
      subst (λ (n : ℕ). bad_component k w n (get_or sites i no_site) ≡ false) z (bad_number (bad_component k w) 0 sites (none_bad (bad_component k w) 0 sites places.1) i no_site lt)

  module _ (few : kind_fault kind.TooMany (written t modules) ≡ None) (once : kind_fault kind.Twice (written t modules) ≡ None) (known : kind_fault kind.Unknown (written t modules) ≡ None) where
    site_built : (c : ℕ) → c < length sites → IsBuilt (site_at sites c)
    site_built c lt =
        let site = site_at sites c in
        let from = made t.components modules c (omega (arith, lt, length_sites t.components modules)) in
        let fine = site_fine kind.TooMany few c lt in
        let a = neither (has_wide site.ports) _ fine in
        let b = neither (has_wide site.outputs) _ a.1 in
        let d = neither (nat_eq c 32) _ b.1 in
        let e = neither (not (is_replica_count site.entry.replicas)) _ d.1 in
        let f = neither (are_many site.ports) _ e.1 in
        let g = neither (are_many site.outputs) _ f.1 in
        let twice = neither (has_component (take c t.components) site.entry.name) _ (site_fine kind.Twice once c lt) in
        let two = neither (repeat_in site.entry.inputs) _ twice.1 in
        let three = neither (repeat_in site.entry.outputs) _ two.1 in
        let apart : repeats_in_body site.entry.body ≡ false = (neither (repeats_in_body site.entry.body) _ three.1).0 in
        let named : unknown_in_body site.entry.body ≡ false = (neither (unknown_in_body site.entry.body) _ (site_fine kind.Unknown known c lt)).0 in
        record {
          ports = ports_own from;
          outputs = outputs_own from;
          few_ports = above 8 (length site.ports) f.0;
          few_outputs = above 8 (length site.outputs) g.0;
          few_replicas = few_of site.entry.replicas (not_false (is_replica_count site.entry.replicas) e.0);
          stock = runs_stock from (site_at sites c).program refl a.0 apart named;
        }
      where
        ports_own : Made t.components modules c → (site_at sites c).ports ≡ ports_with (site_at sites c).entry (site_at sites c).program
        ports_own from = subst (λ (s : Site). s.ports ≡ ports_with s.entry s.program) (sym from.is) refl

        outputs_own : Made t.components modules c → (site_at sites c).outputs ≡ outputs_with (site_at sites c).entry (site_at sites c).program
        outputs_own from = subst (λ (s : Site). s.outputs ≡ outputs_with s.entry s.program) (sym from.is) refl

        runs_stock : Made t.components modules c → (o : Option Program) → (site_at sites c).program ≡ o → has_wide (site_at sites c).ports ≡ false → repeats_in_body (site_at sites c).entry.body ≡ false → unknown_in_body (site_at sites c).entry.body ≡ false → RunsStock o
        runs_stock from None is narrow apart named = tt
        runs_stock from (Some p) is narrow apart named =
            let entry = get_or t.components c no_entry in
            let own : (site_at sites c).entry ≡ entry = ap (λ (s : Site). s.entry) from.is in
            let runs : program_in entry.body from.rest ≡ Some p = sym (ap (λ (s : Site). s.program) from.is) ∙ is in
            let ports : (site_at sites c).ports ≡ program_ports p = ports_own from ∙ ap (ports_with (site_at sites c).entry) is in
            elim (program_cases entry.body from.rest p runs) [
              | inl a ↦ subst IsStock a.2 tt
              | inr a ↦ subst IsStock a.2 (proper_is_stock (stock_program a.0) (
                  let body_is : (site_at sites c).entry.body ≡ body.Stock a.0 = ap (λ (e : ComponentEntry). e.body) own ∙ a.1 in
                  proper_stock a.0
                  (subst (λ (ps : List Side). has_wide ps ≡ false) (ports ∙ ap program_ports (sym a.2)) narrow)
                  (subst (λ (b : Body). repeats_in_body b ≡ false) body_is apart)
                  (subst (λ (b : Body). unknown_in_body b ≡ false) body_is named)))
            ]

    -- each component is as it should be
    pub all_built : All IsBuilt sites
    all_built c d lt = subst IsBuilt (same sites c d lt) (site_built c lt)
      where
        same : (xs : List Site) (i : ℕ) (d : Site) → i < length xs → get_or xs i no_site ≡ get_or xs i d
        same xs i d lt = get_or_default xs i no_site d lt
