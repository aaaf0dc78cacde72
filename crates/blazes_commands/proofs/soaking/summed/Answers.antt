use Rattle.std.proofs.Common.{◌∙◌, ap}
use Rattle.command_checks.specs.Reply.{Answer}
use Rattle.command_checks.specs.Script.{Bytes}
use Rattle.command_checks.specs.declared.status.Status.TheVariants.{Done}
use Rattle.blazes_commands.proofs.soaking.summed.Goals as goal

pub returns : goal.returns
returns g c given steps stand =
    let told : Bytes → Answer = λ text. record { status = Done; text = text } in
    record {
      labels = c.in_ok-labels.labels;
      rules = c.in_ok-labels.ensures.rules;
      sound = c.in_ok-labels.ensures.sound;
      restarts = c.in_ok-labels.ensures.restarts;
      coordinated = c.requires.coordinated;
      says = c.done.ensures ∙ ap told (c.in_ok-soak_text.ensures given steps stand);
    }
