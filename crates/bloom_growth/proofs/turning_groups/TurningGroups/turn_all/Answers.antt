use Rattle.std.proofs.Common.{◌∙◌, List, Ok, Err, map, filter, sym, ap, subst}
use Rattle.blz_value.specs.Groups.{group_rows}
use Rattle.blz_value.specs.Operators.{project_rows}
use Rattle.blz_value.specs.Record.{Row}
use Rattle.blz_value.specs.Sets.{set_of}
use Rattle.blz_set.specs.Missing.{has_row}
use Rattle.blz_set.proofs.Unions.{handed_on}
use Rattle.bloom_growth.specs.Code.Aggregates.{grouped}
use Rattle.bloom_growth.specs.Turned.{TurnsInto}
use Rattle.bloom_growth.proofs.BagsLemmas.{turn_no_fault}
use Rattle.bloom_growth.proofs.TurnedGroups.{group_as, group_no_fault, group_turns, touched_as, own_tallied}
use Rattle.bloom_growth.proofs.turning_groups.TurningGroups.turn_all.Goals as goal

pub returns-in_err-before-clause-rows : goal.returns-in_err-before-clause-rows
returns-in_err-before-clause-rows c = λ keys agg old new g.
    let self = c.args.self.now in
    let more = c.args.part.more.now in
    let gone = c.args.part.gone.now in
    let touched = c.deref.result.now in
    let fault = c.in_err-before.field-0.0 in
    let is = touched_as keys self.keys.items gone more touched g.stand.keys_are (c.deref.ensures.value ∙ c.in_ok-touched.ensures) in
    let found = group_as keys self.keys.items agg self.agg old touched (Err fault) g.stand.keys_are g.stand.agg_is (c.in_err-before.ensures old (own_tallied keys agg old self g.stand)) in
    subst (TurnsInto (set_of (group_rows keys agg old)) (set_of (group_rows keys agg new))) (sym (handed_on _ c.from_residual-in_err-before.result fault c.from_residual-in_err-before.ensures.1))
    (turn_no_fault (set_of (group_rows keys agg old)) (set_of (group_rows keys agg new)) (set_of (map (grouped keys agg old) (filter (has_row (project_rows keys old)) touched))) fault (group_no_fault keys old new more gone g.turned touched is agg old g.few_old) found)

pub returns-in_err-after-clause-rows : goal.returns-in_err-after-clause-rows
returns-in_err-after-clause-rows c = λ keys agg old new g.
    let self = c.args.self.now in
    let after = c.go_on.new.self in
    let more = c.args.part.more.now in
    let gone = c.args.part.gone.now in
    let touched = c.deref-2.result.now in
    let fault = c.in_err-after.field-0.0 in
    let stand = c.in_ok-go_on.ensures keys agg old new g in
    let is = touched_as keys self.keys.items gone more touched g.stand.keys_are (c.deref-2.ensures.value ∙ c.in_ok-touched.ensures) in
    let found = group_as keys after.keys.items agg after.agg new touched (Err fault) stand.keys_are stand.agg_is (c.in_err-after.ensures new (own_tallied keys agg new after stand)) in
    subst (TurnsInto (set_of (group_rows keys agg old)) (set_of (group_rows keys agg new))) (sym (handed_on _ c.from_residual-in_err-after.result fault c.from_residual-in_err-after.ensures.1))
    (turn_no_fault (set_of (group_rows keys agg old)) (set_of (group_rows keys agg new)) (set_of (map (grouped keys agg new) (filter (has_row (project_rows keys new)) touched))) fault (group_no_fault keys old new more gone g.turned touched is agg new g.few_new) found)

pub returns-clause-rows : goal.returns-clause-rows
returns-clause-rows c = λ keys agg old new g.
    let self = c.args.self.now in
    let last = c.go_on.new.self in
    let more = c.args.part.more.now in
    let gone = c.args.part.gone.now in
    let touched = c.deref.result.now in
    let before = c.in_ok-before.before in
    let after = c.in_ok-after.after in
    let stand = c.in_ok-go_on.ensures keys agg old new g in
    let is = touched_as keys self.keys.items gone more touched g.stand.keys_are (c.deref.ensures.value ∙ c.in_ok-touched.ensures) in
    let first = group_as keys self.keys.items agg self.agg old touched (Ok before) g.stand.keys_are g.stand.agg_is (c.in_ok-before.ensures old (own_tallied keys agg old self g.stand)) in
    let second = group_as keys last.keys.items agg last.agg new c.deref-2.result.now (Ok after) stand.keys_are stand.agg_is (c.in_ok-after.ensures new (own_tallied keys agg new last stand)) in
    let at : List Row → List Row = λ (l : List Row). set_of (map (grouped keys agg new) (filter (has_row (project_rows keys new)) l)) in
    let after_is = second.0 ∙ ap at (c.deref-2.ensures.value ∙ sym c.deref.ensures.value) in
    group_turns keys old new more gone g.turned touched is agg c.differ.result g.few_new
    (subst (λ (l : List Row). TurnsInto l (set_of (map (grouped keys agg new) (filter (has_row (project_rows keys new)) touched))) c.differ.result) first.0 (subst (λ (l : List Row). TurnsInto before l c.differ.result) after_is c.differ.ensures))
