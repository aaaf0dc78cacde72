-- A key is kept, or none.
use Rattle.std.proofs.Common.{Some, ap, sym, ◌∙◌}
use Rattle.bloom_forms.specs.declared.mode.Mode.{Mode}
use Rattle.coord_modes.specs.Choice.{mode_with_key}
use Rattle.coord_modes.proofs.component.chosen_mode.Goals as goal

pub returns-in-Some : goal.returns-in-Some
returns-in-Some c = ap (λ (m : Mode). Some m) c.tried_mode-mode.ensures ∙ ap (mode_with_key c.args.steps c.args.now.now.view c.args.component) (sym c.in-Some.is ∙ c.in_ok-key.ensures)

pub returns : goal.returns
returns c = c.order_step.ensures ∙ ap (mode_with_key c.args.steps c.args.now.now.view c.args.component) (sym c.in-None.is ∙ c.in_ok-key.ensures)
