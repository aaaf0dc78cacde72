use Rattle.std.proofs.Common.{List, ◌∙◌, ap, subst, sym}
use Rattle.std.specs.List.{AllPass}
use Rattle.sched_net.specs.ScheduleLines.{Line}
use Rattle.sched_text.specs.Text.{is_printable}
use Rattle.command_checks.specs.Reply.{Answer}
use Rattle.command_checks.specs.Script.{Bytes}
use Rattle.command_checks.specs.declared.status.Status.TheVariants.{Done}
use Rattle.blazes_commands.specs.Finds.Code.Looked.{explained_by, wanted_shown}
use Rattle.blazes_commands.specs.Finds.Finds.{AreReasons}
use Rattle.blazes_commands.specs.Finds.WhyText.{why_text}
use Rattle.blazes_commands.proofs.Finds.ReasonsLemmas.{part_printable}
use Rattle.blazes_commands.proofs.find_calls.explaining.reasons.Goals as goal

pub why_text-requires : goal.why_text-requires
why_text-requires g c = record {
  stream = c.requires.stream;
  printable = subst (λ (lines : List Line). AllPass (λ reason. is_printable reason.1) lines) (sym c.lines.ensures) (part_printable c.in_ok-needed.needed c.args.schedule.now c.in_ok-needed.ensures.part c.requires.printable);
}

pub returns : goal.returns
returns g c =
    let v = c.args.valid.now.view in
    let wanted = wanted_shown c.args.wanted.now in
    let found = explained_by v c.args.given.now c.args.schedule.now wanted in
    let told : Bytes → Answer = λ text. record { status = Done; text = text } in
    record {
      says = record {
        says = c.done.ensures ∙ ap told (c.in_ok-why_text.ensures ∙ ap (why_text v wanted) (c.lines.ensures ∙ c.in_ok-needed.ensures.trimmed));
        reasons = subst (AreReasons found) c.in_ok-needed.ensures.trimmed (record { yielded = c.in_ok-needed.ensures.yields; needed = c.in_ok-needed.ensures.needed; part = c.in_ok-needed.ensures.part });
      };
      kinds = c.in_ok-needed.ensures.kinds;
    }
