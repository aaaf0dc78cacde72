use Rattle.std.proofs.Common.{List, [], ◌∷◌, ◌++◌, map, ap, ◌∙◌}
use Rattle.std.proofs.lemmas.List.{map-append}
use Rattle.inbox.specs.Events.{Event}
use Rattle.sched_net.specs.Numbered.{event_by_numbers}
use Rattle.sched_run.proofs.made.Made.push.Goals as goal

pub returns : goal.returns
returns c =
    ap (map event_by_numbers) c.in_ok-push.ensures.items
    ∙ map-append event_by_numbers c.self.inside.events.items (c.args.event ∷ [])
    ∙ ap (λ (l : List Event). l ++ event_by_numbers c.args.event ∷ []) c.self.view_is
