use Rattle.std.proofs.Common.{◌≡◌, ◌∙◌, ℕ, List, refl, ap}
use Rattle.blz_value.specs.Operators.{cells}
use Rattle.bloom_growth.proofs.BagRows.{on_ok}
use Rattle.bloom_growth.proofs.TurnedGroups.{one_stands, one_turns}
use Rattle.bloom_growth.proofs.turning_groups.TurningGroups.turn_one.Goals as goal

pub returns-clause-stand : goal.returns-clause-stand
returns-clause-stand c = on_ok c.step_turn.result (λ keys agg old new g.
    let own = c.args.self.now in
    let row = c.args.row.now in
    let key : c.in_ok-key.key ≡ cells own.keys.items row = c.in_ok-key.ensures ∙ ap (λ (l : List ℕ). cells l row) c.deref.ensures.value in
    one_stands keys agg old new row own g c.in_ok-key.key key c.put_row.new.tallies c.in_ok-step.ensures.goes _ refl refl refl)

pub returns-clause-rows : goal.returns-clause-rows
returns-clause-rows c = λ keys agg old new g.
    let own = c.args.self.now in
    let row = c.args.row.now in
    let key : c.in_ok-key.key ≡ cells own.keys.items row = c.in_ok-key.ensures ∙ ap (λ (l : List ℕ). cells l row) c.deref.ensures.value in
    one_turns keys agg old new row own g c.in_ok-key.key key c.put_row.new.tallies c.in_ok-step.ensures.goes c.in_ok-step.step c.step_turn.result c.in_ok-step.ensures.step c.step_turn.ensures
