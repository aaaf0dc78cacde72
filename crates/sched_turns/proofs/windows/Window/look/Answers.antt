use Rattle.std.proofs.lemmas.Result.{on_ok_weaker}
use Rattle.sched_turns.proofs.WindowsLemmas.{window_shows}
use Rattle.sched_turns.proofs.windows.Window.look.Goals as goal

pub returns-clause-places : goal.returns-clause-places
returns-clause-places g c =
    on_ok_weaker c.look_on.result (λ w. window_shows (g.L.OpenPlaces.is_open c.args.list.now) c.args.count c.look_on.new.self w) c.look_on.ensures
