use Rattle.std.proofs.Common.{List, length, map, ap, subst, sym, ◌∙◌, ◌≤◌}
use Rattle.std.specs.List.{All}
use Rattle.std.proofs.lemmas.List.{length-map}
use Rattle.sched_text.specs.Text.{IsPrintable}
use Rattle.sched_net.specs.Numbered.{event_by_numbers}
use Rattle.sched_net.specs.declared.numbered.NumberedEvent.{NumberedEvent}
use Rattle.sched_net.specs.ScheduleLines.{events_of, Line}
use Rattle.sched_run.specs.Made.{event_limit}
use Rattle.sched_run.specs.Making.{CountFromOne}
use Rattle.sched_run.specs.Naming.{CanBeWritten, HasEventNames}
use Rattle.sched_run.proofs.WrittenLemmas.{all_by_numbers}
use Rattle.sched_run.proofs.made.Made.schedule.Goals as goal

pub lines_of-requires : goal.lines_of-requires
lines_of-requires c =
    let events = c.self.inside.events.items in
    let can : CanBeWritten c.args.valid.now.view (map event_by_numbers events) = subst (CanBeWritten c.args.valid.now.view) (sym c.self.view_is) c.requires in
    record {
      few = subst (λ n. n ≤ event_limit) (length-map events event_by_numbers ∙ sym (ap (λ (l : List NumberedEvent). length l) c.as_slice.ensures.value)) can.few;
      named = subst (λ (l : List NumberedEvent). All (λ event. HasEventNames c.args.valid.now.view (event_by_numbers event)) l) (sym c.as_slice.ensures.value) (all_by_numbers (HasEventNames c.args.valid.now.view) events can.named);
    }

pub returns : goal.returns
returns c = record {
  events = ap (λ (l : List Line). events_of c.args.valid.now.view l) c.from_lines.ensures ∙ c.in_ok-lines.ensures.events ∙ ap (map event_by_numbers) c.as_slice.ensures.value ∙ c.self.view_is;
  numbers = subst CountFromOne (sym c.from_lines.ensures) c.in_ok-lines.ensures.lines.numbers;
  printable = subst IsPrintable (sym c.from_lines.ensures) c.in_ok-lines.ensures.lines.printable;
}
