use Rattle.std.proofs.Common.{◌++◌, ◌∙◌, ap}
use Rattle.std.proofs.lemmas.Result.{on_ok_weaker}
use Rattle.std.specs.List.{flat_map}
use Rattle.topo_forms.specs.View.{component_numbers}
use Rattle.inbox.specs.Completeness.{left_count}
use Rattle.inbox.specs.Wiring.{wiring_of}
use Rattle.sched_net.specs.Net.{execution_in}
use Rattle.sched_net.specs.Reading.{is_complete}
use Rattle.report_print.specs.RunText.{held_lines, end_lines}
use Rattle.report_print.proofs.run_lines.Ran.push_run.Goals as goal

pub returns : goal.returns
returns g c =
    let v = c.args.self.now.valid.now.view in
    on_ok_weaker c.push_end.result (λ read given steps stand.
    read given steps stand
    ∙ ap (λ t. t ++ end_lines (is_complete v given (execution_in stand)) (left_count (wiring_of v) given (execution_in stand)))
    (c.in_ok-push_all_held.ensures given steps stand
    ∙ ap (λ t. t ++ flat_map (held_lines v (execution_in stand)) (component_numbers v)) (c.in_ok-push_streams.ensures given steps stand))) c.push_end.ensures
