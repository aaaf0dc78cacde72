-- no stream so far is that of the output
use Rattle.std.proofs.Common.{◌≡◌, None, take}
use Rattle.std.specs.List.{position_from}
use Rattle.report_lines.proofs.Streams.{is_of}
use Rattle.report_lines.proofs.component.stream_of.Given as goal

abbrev pub invariant-loop-stream : goal.invariant-loop-stream
invariant-loop-stream l = position_from (is_of l.component l.output) 0 (take l.stream l.report.valid.now.view.streams) ≡ None
