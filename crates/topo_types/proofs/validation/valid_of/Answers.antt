use Rattle.std.proofs.Common.{◌≡◌, ◌∙◌, None, Some, List, ap, sym, subst}
use Rattle.std.specs.List.{All}
use Rattle.blz_value.proofs.Membership.{All-of_member}
use Rattle.bloom_forms.specs.Checks.{IsChecked}
use Rattle.bloom_forms.specs.Form.{Accepted}
use Rattle.topo_types.specs.Code.Built.{sites_seen, IsBuilt}
use Rattle.topo_types.specs.Code.OfView.{HasKnownNotes}
use Rattle.topo_types.specs.declared.view.sites.Site.{Site}
use Rattle.topo_forms.specs.Bounded.{IsBounded}
use Rattle.topo_forms.specs.Kept.{view_kept}
use Rattle.topo_forms.specs.declared.topology.Topology.{Topology}
use Rattle.topo_forms.specs.Valid.{AreModules, IsWhole, Validated}
use Rattle.topo_forms.specs.Validity.{fault_of}
use Rattle.topo_forms.specs.ViewOf.{view_of}
use Rattle.topo_forms.proofs.Views.ViewBounds.{view_bounded}
use Rattle.topo_types.proofs.Faults.FaultParts.{first_understated}
use Rattle.topo_types.proofs.Faults.ValidatingLemmas as lemmas
use Rattle.topo_types.proofs.Faults.WholeLemmas as lemmas'
use Rattle.topo_types.proofs.validation.valid_of.Goals as goal

pub parts_of-requires-clause-built : goal.parts_of-requires-clause-built
parts_of-requires-clause-built c = lemmas.built c.args.topology.now c.args.modules.now c.args.sites.items c.requires.sites c.args.names c.requires.named

pub regions_of-requires : goal.regions_of-requires
regions_of-requires c = lemmas.ends c.args.topology.now c.args.modules.now c.args.sites.items c.requires.sites c.args.names c.requires.named (view_kept c.in_ok-kept.kept) c.in_ok-kept.ensures

pub first_understated-requires-clause-built : goal.first_understated-requires-clause-built
first_understated-requires-clause-built c = subst (λ (sites : List Site). All IsBuilt (sites_seen sites)) (sym c.deref.ensures.value) (lemmas.built c.args.topology.now c.args.modules.now c.args.sites.items c.requires.sites c.args.names c.requires.named)

pub first_understated-requires-clause-known : goal.first_understated-requires-clause-known
first_understated-requires-clause-known c = subst (λ (sites : List Site). All HasKnownNotes (sites_seen sites)) (sym c.deref.ensures.value) (lemmas.notes c.args.topology.now c.args.modules.now c.args.sites.items c.requires.sites c.args.names c.requires.named)

pub view_fault-fault-requires-clause-components : goal.view_fault-fault-requires-clause-components
view_fault-fault-requires-clause-components c = lemmas.few_told c.args.topology.now c.args.modules.now c.args.sites.items c.requires.sites c.args.names c.requires.named (view_kept c.in_ok-kept.kept) c.in_ok-kept.ensures c.deref-2.result.now (c.deref-2.ensures.value ∙ c.in_ok-regions.ensures.cycles)

pub returns-in-Some : goal.returns-in-Some
returns-in-Some c = lemmas.fault_is c.args.topology.now c.args.modules.now c.args.sites.items c.requires.sites c.args.names c.requires.named (view_kept c.in_ok-kept.kept) c.in_ok-kept.ensures c.deref-2.result.now (c.deref-2.ensures.value ∙ c.in_ok-regions.ensures.cycles) c.in_ok-understated.understated (c.in_ok-understated.ensures.place ∙ ap (λ (sites : List Site). first_understated c.args.names (sites_seen sites)) c.deref.ensures.value) (Some c.in-Some.fault) (sym c.in-Some.is ∙ c.view_fault-fault.ensures)

pub found_with-requires-clause-ends : goal.found_with-requires-clause-ends
found_with-requires-clause-ends c = lemmas.ends c.args.topology.now c.args.modules.now c.args.sites.items c.requires.sites c.args.names c.requires.named (view_kept c.in_ok-kept.kept) c.in_ok-kept.ensures

view_is : (c : goal.In_ok-copied) → view_kept c.in_ok-kept.kept ≡ view_of c.args.topology.now c.args.modules.now
view_is c = lemmas.view_is c.args.topology.now c.args.modules.now c.args.sites.items c.requires.sites c.args.names c.requires.named (view_kept c.in_ok-kept.kept) c.in_ok-kept.ensures

clean : (c : goal.In_ok-copied) → fault_of c.args.topology.now c.args.modules.now ≡ None
clean c = lemmas.fault_is c.args.topology.now c.args.modules.now c.args.sites.items c.requires.sites c.args.names c.requires.named (view_kept c.in_ok-kept.kept) c.in_ok-kept.ensures c.deref-2.result.now (c.deref-2.ensures.value ∙ c.in_ok-regions.ensures.cycles) c.in_ok-understated.understated (c.in_ok-understated.ensures.place ∙ ap (λ (sites : List Site). first_understated c.args.names (sites_seen sites)) c.deref.ensures.value) None (sym c.in_default.is ∙ c.view_fault-fault.ensures)

given : (c : goal.In_ok-copied) → AreModules c.args.topology.now c.args.modules.now
given c = record { each = c.requires.each; checked = λ m has. All-of_member (λ (a : Accepted). IsChecked a.form a.heads) c.args.modules.now m c.known.ensures has }

pub new-requires-clause-whole : goal.new-requires-clause-whole
new-requires-clause-whole c =
    subst (λ (t : Topology). IsWhole (record { topology = t; view = view_kept c.in_ok-kept.kept })) (sym c.in_ok-copied.ensures)
    (lemmas'.whole c.args.topology.now c.args.modules.now (view_kept c.in_ok-kept.kept) (view_is c) c.requires.allowed (given c) (clean c))

pub new-requires-clause-valid : goal.new-requires-clause-valid
new-requires-clause-valid c = lemmas'.valid c.args.topology.now c.args.modules.now (view_kept c.in_ok-kept.kept) (view_is c) c.requires.allowed (given c) (clean c)

pub new-requires-clause-bounded : goal.new-requires-clause-bounded
new-requires-clause-bounded c = subst IsBounded (sym (view_is c)) (view_bounded c.args.topology.now c.args.modules.now (clean c))

pub returns : goal.returns
returns c = record {
  topology = ap (λ (seen : Validated). seen.topology) c.in_ok-new.ensures ∙ c.in_ok-copied.ensures;
  view = ap (λ (seen : Validated). seen.view) c.in_ok-new.ensures ∙ lemmas.view_is c.args.topology.now c.args.modules.now c.args.sites.items c.requires.sites c.args.names c.requires.named (view_kept c.in_ok-kept.kept) c.in_ok-kept.ensures;
  clean = lemmas.fault_is c.args.topology.now c.args.modules.now c.args.sites.items c.requires.sites c.args.names c.requires.named (view_kept c.in_ok-kept.kept) c.in_ok-kept.ensures c.deref-2.result.now (c.deref-2.ensures.value ∙ c.in_ok-regions.ensures.cycles) c.in_ok-understated.understated (c.in_ok-understated.ensures.place ∙ ap (λ (sites : List Site). first_understated c.args.names (sites_seen sites)) c.deref.ensures.value) None (sym c.in_default.is ∙ c.view_fault-fault.ensures);
}
