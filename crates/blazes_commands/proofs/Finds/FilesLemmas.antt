-- Data that passed the checks of their file hold the dependencies, and a schedule that did can be printed.
use Rattle.std.proofs.Common.{◌≡◌, ℕ, List, Option, None, Some, Result, Ok, Err, length, refl, sym, subst, ap}
use Rattle.data_read.specs.Reading.{data_of}
use Rattle.data_read.specs.declared.fault.DataFault.{DataFault}
use Rattle.data_read.proofs.HoldingLemmas.{read_data}
use Rattle.sched_net.specs.ScheduleLines.{Line}
use Rattle.sched_text.specs.Reading.{bad_line, entries_of, event_reading}
use Rattle.sched_text.specs.Text.{IsPrintable}
use Rattle.sched_text.proofs.PrintableLemmas.{reads_printable}
use Rattle.topo_forms.specs.Data.{Data, Holds}
use Rattle.topo_forms.specs.Valid.{Validated}
use Rattle.topo_forms.specs.View.{View}
use Rattle.command_checks.specs.Checks.{data_file, data_in, data_limit}
use Rattle.command_checks.specs.FileChecks.{checked, file, schedule_file, schedule_in, schedule_limit}
use Rattle.command_checks.specs.Ends.{FilesStates, Came}
use Rattle.command_checks.specs.Script.{Bytes, ◌>>=◌}
use Rattle.command_checks.specs.Script.Script.{gives}
use Rattle.command_checks.specs.Script.Ending.{gave}
use Rattle.blazes_commands.specs.Finds.Checks.{counted, few_events_file}
use Rattle.blazes_commands.proofs.Finds.ScriptsLemmas.{checked_gave, then_gave}

-- ---- data

data_were : (v : View) (r : Result Data DataFault) (given : Data) → data_in v r ≡ Ok given → r ≡ Ok given
data_were v (Ok d) given is = let same : d ≡ given = cc in ap (λ (z : Data). Ok z) same
data_were v (Err fault) given is = absurd (cc)

pub data_hold : (files : FilesStates) (seen : Validated) (name : Bytes) (given : Data) → Came files (data_file seen name) (gave given) → Holds seen.view given
data_hold files seen name given came =
    let read = then_gave files.before.told (file data_limit name) (λ bytes. checked (data_in seen.view (data_of seen bytes))) given came.ends in
    let are : data_in seen.view (data_of seen read.0) ≡ Ok given = checked_gave files.before.told (data_in seen.view (data_of seen read.0)) given read.2 in
    (read_data seen read.0 given (data_were seen.view (data_of seen read.0) given are)).1

-- ---- a schedule

lines_printable : (text : Bytes) (bad : Option ℕ) (lines : List Line) → bad_line event_reading text ≡ bad → schedule_in bad (entries_of event_reading text) ≡ Ok lines → IsPrintable lines
lines_printable text None lines none is = let same : lines ≡ entries_of event_reading text = cc in reads_printable text lines (none, same)
lines_printable text (Some line) lines bad is = absurd (cc)

pub schedule_printable : (files : FilesStates) (name : Bytes) (lines : List Line) → Came files (few_events_file name) (gave lines) → IsPrintable lines
schedule_printable files name lines came =
    let told = files.before.told in
    let all = then_gave told (schedule_file name) (λ all. checked (counted (length all)) >>= λ few. gives all) lines came.ends in
    let few = then_gave told (checked (counted (length all.0))) (λ few. gives all.0) lines all.2 in
    let same : lines ≡ all.0 = cc in
    let read = then_gave told (file schedule_limit name) (λ bytes. checked (schedule_in (bad_line event_reading bytes) (entries_of event_reading bytes))) all.0 all.1 in
    subst IsPrintable (sym same)
    (lines_printable read.0 (bad_line event_reading read.0) all.0 refl (checked_gave told (schedule_in (bad_line event_reading read.0) (entries_of event_reading read.0)) all.0 read.2))
