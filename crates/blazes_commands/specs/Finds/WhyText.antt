-- The text of `why`: a record, and the events that it needs.
use Rattle.std.specs.Prelude.{List, [], ◌∷◌, ◌++◌, codes, length}
use Rattle.std.specs.Fmt.{decimal}
use Rattle.std.specs.List.{flat_map}
use Rattle.blz_value.specs.Text.{record_text}
use Rattle.topo_forms.specs.View.{View, stream_at}
use Rattle.sched_net.specs.ScheduleLines.{Line}
use Rattle.sched_text.specs.Text.{event_text}
use Rattle.why_trace.specs.Trim.{Wanted}
use Rattle.report_lines.specs.Words.{Text, line, inner_line}

-- the record, behind its stream and replica
abbrev pub wanted_line : View → Wanted → Text
wanted_line v wanted = line (codes "why" ∷ (stream_at v wanted.stream).name ∷ decimal wanted.replica ∷ record_text wanted.row ∷ [])

-- an event, behind the number of its line
abbrev pub reason_line : Line → Text
reason_line reason = inner_line (decimal reason.0 ∷ event_text reason.1 ∷ [])

-- how many events there are
abbrev pub count_line : List Line → Text
count_line reasons = line (codes "events" ∷ decimal (length reasons) ∷ [])

abbrev pub why_text : View → Wanted → (reasons : List Line) → Text
why_text v wanted reasons = wanted_line v wanted ++ flat_map reason_line reasons ++ count_line reasons
