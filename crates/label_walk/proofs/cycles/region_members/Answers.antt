-- The set is that of the region, whose members are components.
use Rattle.std.proofs.Common.{◌≡◌, ℕ, List, IfOk, subst, sym}
use Rattle.std.proofs.lemmas.Result.{IfOk-weaker}
use Rattle.blz_value.specs.Bits.{members}
use Rattle.topo_forms.specs.Regions.{region_members}
use Rattle.label_walk.specs.Paths.{AreComponents}
use Rattle.label_walk.proofs.Ranges.{members_within}
use Rattle.label_walk.proofs.cycles.region_members.Goals as goal

pub returns : goal.returns
returns c =
    let is : IfOk c.members.result (λ ms. ms.items ≡ region_members c.args.valid.now.view c.args.region) =
    subst (λ (set : ℕ). IfOk c.members.result (λ ms. ms.items ≡ members set)) c.region_members.ensures c.members.ensures in
    record {
      members = is;
      within = IfOk-weaker c.members.result (λ ms. ms.items ≡ region_members c.args.valid.now.view c.args.region) (λ ms. AreComponents c.args.valid.now.view ms.items)
          (λ ms same. subst (λ (xs : List ℕ). AreComponents c.args.valid.now.view xs) (sym same) (members_within c.args.valid.now.view c.known.ensures c.args.region c.requires)) is;
    }
