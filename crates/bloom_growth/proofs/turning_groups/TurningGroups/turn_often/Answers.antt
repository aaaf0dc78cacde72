use Rattle.std.proofs.Common.{◌∙◌, List, Ok, Err, filter, length, sym, ap, subst}
use Rattle.std.specs.Prelude.{nat_le, ◌&&◌}
use Rattle.blz_value.specs.Groups.{at_least_rows, with_key}
use Rattle.blz_value.specs.Operators.{project_rows}
use Rattle.blz_value.specs.Record.{Row}
use Rattle.blz_value.specs.Sets.{set_of}
use Rattle.blz_set.specs.Missing.{has_row}
use Rattle.blz_set.proofs.Unions.{handed_on}
use Rattle.bloom_growth.specs.Turned.{TurnsInto}
use Rattle.bloom_growth.proofs.BagsLemmas.{turn_no_fault}
use Rattle.bloom_growth.proofs.TurnedGroups.{often_as, often_no_fault, often_turns, touched_as, own_tallied}
use Rattle.bloom_growth.proofs.turning_groups.TurningGroups.turn_often.Goals as goal

pub returns-in_err-before-clause-often : goal.returns-in_err-before-clause-often
returns-in_err-before-clause-often c = λ keys agg old new g.
    let self = c.args.self.now in
    let more = c.args.part.more.now in
    let gone = c.args.part.gone.now in
    let touched = c.deref.result.now in
    let fault = c.in_err-before.field-0.0 in
    let is = touched_as keys self.keys.items gone more touched g.stand.keys_are (c.deref.ensures.value ∙ c.in_ok-touched.ensures) in
    let found = often_as keys self.keys.items c.args.bound old touched (Err fault) g.stand.keys_are (c.in_err-before.ensures old (own_tallied keys agg old self g.stand)) in
    subst (TurnsInto (set_of (at_least_rows keys c.args.bound old)) (set_of (at_least_rows keys c.args.bound new))) (sym (handed_on _ c.from_residual-in_err-before.result fault c.from_residual-in_err-before.ensures.1))
    (turn_no_fault (set_of (at_least_rows keys c.args.bound old)) (set_of (at_least_rows keys c.args.bound new)) (set_of (filter (λ (key : Row). has_row (project_rows keys old) key && nat_le c.args.bound (length (with_key keys key old))) touched)) fault (often_no_fault keys old new more gone g.turned touched is c.args.bound old g.few_old) found)

pub returns-in_err-after-clause-often : goal.returns-in_err-after-clause-often
returns-in_err-after-clause-often c = λ keys agg old new g.
    let self = c.args.self.now in
    let after = c.go_on.new.self in
    let more = c.args.part.more.now in
    let gone = c.args.part.gone.now in
    let touched = c.deref-2.result.now in
    let fault = c.in_err-after.field-0.0 in
    let stand = c.in_ok-go_on.ensures keys agg old new g in
    let is = touched_as keys self.keys.items gone more touched g.stand.keys_are (c.deref-2.ensures.value ∙ c.in_ok-touched.ensures) in
    let found = often_as keys after.keys.items c.args.bound new touched (Err fault) stand.keys_are (c.in_err-after.ensures new (own_tallied keys agg new after stand)) in
    subst (TurnsInto (set_of (at_least_rows keys c.args.bound old)) (set_of (at_least_rows keys c.args.bound new))) (sym (handed_on _ c.from_residual-in_err-after.result fault c.from_residual-in_err-after.ensures.1))
    (turn_no_fault (set_of (at_least_rows keys c.args.bound old)) (set_of (at_least_rows keys c.args.bound new)) (set_of (filter (λ (key : Row). has_row (project_rows keys new) key && nat_le c.args.bound (length (with_key keys key new))) touched)) fault (often_no_fault keys old new more gone g.turned touched is c.args.bound new g.few_new) found)

pub returns-clause-often : goal.returns-clause-often
returns-clause-often c = λ keys agg old new g.
    let self = c.args.self.now in
    let last = c.go_on.new.self in
    let more = c.args.part.more.now in
    let gone = c.args.part.gone.now in
    let touched = c.deref.result.now in
    let before = c.in_ok-before.before in
    let after = c.in_ok-after.after in
    let stand = c.in_ok-go_on.ensures keys agg old new g in
    let is = touched_as keys self.keys.items gone more touched g.stand.keys_are (c.deref.ensures.value ∙ c.in_ok-touched.ensures) in
    let first = often_as keys self.keys.items c.args.bound old touched (Ok before) g.stand.keys_are (c.in_ok-before.ensures old (own_tallied keys agg old self g.stand)) in
    let second = often_as keys last.keys.items c.args.bound new c.deref-2.result.now (Ok after) stand.keys_are (c.in_ok-after.ensures new (own_tallied keys agg new last stand)) in
    let at : List Row → List Row = λ (l : List Row). set_of (filter (λ (key : Row). has_row (project_rows keys new) key && nat_le c.args.bound (length (with_key keys key new))) l) in
    let after_is = second.0 ∙ ap at (c.deref-2.ensures.value ∙ sym c.deref.ensures.value) in
    often_turns keys old new more gone g.turned touched is c.args.bound c.differ.result g.few_new
    (subst (λ (l : List Row). TurnsInto l (set_of (filter (λ (key : Row). has_row (project_rows keys new) key && nat_le c.args.bound (length (with_key keys key new))) touched)) c.differ.result) first.0 (subst (λ (l : List Row). TurnsInto before l c.differ.result) after_is c.differ.ensures))
