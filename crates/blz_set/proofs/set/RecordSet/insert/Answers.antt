use Rattle.std.proofs.Common.{◌∙◌, ◌≤◌, ◌∷◌, sym, ap, subst, refl, arith, length}
use Rattle.std.specs.List.{insert}
use Rattle.blz_set.specs.RecordSet.{IsRecordSet, row_limit}
use Rattle.blz_value.proofs.RowSets.{set_of-present}
use Rattle.blz_set.proofs.RecordSets.{has_row_means, inserted_is_set}
use Rattle.blz_set.proofs.set.RecordSet.insert.Goals as goal

pub invariant_of-self-in-Err : goal.invariant_of-self-in-Err
invariant_of-self-in-Err c =
    subst IsRecordSet (sym (c.in_ok-insert-in-Err.ensures.items ∙ ap (λ rows. insert rows c.in-Err.at c.args.row) c.self.view_is ∙ c.in-Err.ensures.gap))
    (inserted_is_set c.args.self.now c.args.row (omega (arith, ap length c.self.view_is)))

pub returns-in-Ok-clause-rows : goal.returns-in-Ok-clause-rows
returns-in-Ok-clause-rows c =
    let held = (has_row_means c.args.self.now c.args.row _ c.in-Ok.ensures.test).0 refl in
    let same = set_of-present c.args.row c.args.self.now c.place.ensures.set.sorted held in
    (sym same, subst (λ rows. length rows ≤ row_limit) (sym same) c.place.ensures.set.small)

pub returns-in-Ok-clause-added : goal.returns-in-Ok-clause-added
returns-in-Ok-clause-added c =
    let held = (has_row_means c.args.self.now c.args.row _ c.in-Ok.ensures.test).0 refl in
    (λ e. cc, λ lacks. absurd (lacks held))

pub returns-in_ok-insert-in-Err-clause-added : goal.returns-in_ok-insert-in-Err-clause-added
returns-in_ok-insert-in-Err-clause-added c = (λ _ h. let e = (has_row_means c.args.self.now c.args.row _ c.in-Err.ensures.test).1 h in cc, λ _. refl)
