use Rattle.std.proofs.Common.{List, length, ap, arith}
use Rattle.std.proofs.lemmas.List.{length-map}
use Rattle.inbox.specs.Events.{Event}
use Rattle.sched_net.specs.Numbered.{event_by_numbers}
use Rattle.sched_run.proofs.made.Made.len.Goals as goal

pub returns : goal.returns
returns c =
    let events = c.self.inside.events in
    omega (arith, c.len.ensures, events.ok.0, length-map events.items event_by_numbers, ap (λ (l : List Event). length l) c.self.view_is)
