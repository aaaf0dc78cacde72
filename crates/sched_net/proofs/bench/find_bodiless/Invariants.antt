use Rattle.std.proofs.Common.{◌≡◌, drop, is_none}
use Rattle.std.specs.List.{position_from}
use Rattle.sched_net.specs.Bench.{first_without_body}
use Rattle.sched_net.proofs.bench.find_bodiless.Given as goal

abbrev pub invariant-loop-component : goal.invariant-loop-component
invariant-loop-component l = first_without_body l.valid.view ≡ position_from (λ component. is_none component.program) l.component (drop l.component l.valid.view.components)
