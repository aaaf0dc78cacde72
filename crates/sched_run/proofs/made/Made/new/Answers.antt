use Rattle.std.proofs.Common.{map, ap}
use Rattle.sched_net.specs.Numbered.{event_by_numbers}
use Rattle.sched_run.proofs.made.Made.new.Goals as goal

pub returns : goal.returns
returns c = ap (map event_by_numbers) c.new.ensures.items
