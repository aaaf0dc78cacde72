-- Keys are tried, or none is.
use Rattle.std.proofs.Common.{◌≡◌, Option, IfOk, subst}
use Rattle.blz_value.specs.declared.attrs.Attrs.{Attrs}
use Rattle.coord_modes.proofs.KeptLemmas.{keys_tried, none_tried}
use Rattle.coord_modes.proofs.component.kept_key.Goals as goal

pub returns-then-steps : goal.returns-then-steps
returns-then-steps c = subst (λ (o : Option Attrs). IfOk c.kept_key_of_ports.result (λ k. k ≡ o)) (keys_tried c.args.steps c.args.now.now.view c.args.component c.if-steps.true) c.kept_key_of_ports.ensures

pub returns-else-steps : goal.returns-else-steps
returns-else-steps c = none_tried c.args.steps c.args.now.now.view c.args.component c.if-steps.false
