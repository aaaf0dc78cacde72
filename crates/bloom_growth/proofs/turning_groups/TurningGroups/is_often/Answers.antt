use Rattle.std.proofs.Common.{◌<◌, ◌∙◌, Bool, Option, length, sym, ap, subst}
use Rattle.std.specs.Prelude.{nat_le, ◌&&◌}
use Rattle.blz_value.specs.Groups.{with_key}
use Rattle.bloom_growth.specs.declared.tally.Tally.{Tally}
use Rattle.bloom_growth.specs.Tallies.{IsTally}
use Rattle.bloom_growth.specs.TurningGroups.{IsTalliedAt}
use Rattle.bloom_growth.proofs.TurnedGroups.{some_occurs, none_occurs}
use Rattle.bloom_growth.proofs.turning_groups.TurningGroups.is_often.Goals as goal

pub returns-in-Some : goal.returns-in-Some
returns-in-Some c = λ rows are.
    let self = c.args.self.now in
    let key = c.args.key.now in
    let run = with_key self.keys.items key rows in
    let at : IsTally self.agg run c.in-Some.tally.now × (0 < length run) = subst (λ (o : Option Tally). IsTalliedAt self.agg run o) (sym c.in-Some.ensures.value) (are key) in
    c.is_often.ensures self.agg run at.0 ∙ sym (ap (λ (b : Bool). b && nat_le c.args.bound (length run)) (some_occurs self.keys.items rows key at.1))

pub returns-in-None : goal.returns-in-None
returns-in-None c = λ rows are.
    let self = c.args.self.now in
    let key = c.args.key.now in
    let run = with_key self.keys.items key rows in
    let none = subst (λ (o : Option Tally). IsTalliedAt self.agg run o) (sym c.in-None.ensures.value) (are key) in
    sym (ap (λ (b : Bool). b && nat_le c.args.bound (length run)) (none_occurs self.keys.items rows key none))
