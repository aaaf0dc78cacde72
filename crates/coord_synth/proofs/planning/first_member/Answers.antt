-- A region has a member.
use Rattle.std.proofs.Common.{◌≡◌, ℕ, true, length, arith, ap, sym, subst}
use Rattle.blz_value.specs.Graph.{is_in}
use Rattle.label_walk.specs.Paths.{region_at}
use Rattle.coord_synth.proofs.FirstLemmas.{has_first, first_in}
use Rattle.coord_synth.proofs.planning.first_member.Goals as goal

pub index-requires : goal.index-requires
index-requires c =
    let some = has_first c.args.valid.now.view c.known.ensures c.args.region c.requires in
    let count = ap (length {A = ℕ}) c.in_ok-members.ensures.members in
    omega (arith, some, count)

pub returns : goal.returns
returns c =
    subst (λ (n : ℕ). is_in n (region_at c.args.valid.now.view c.args.region) ≡ true) (sym c.index.ensures)
    (first_in c.args.valid.now.view c.known.ensures c.args.region c.requires c.in_ok-members.members.items c.index.result.now c.in_ok-members.ensures.members)
