-- A schedule stops the command, or it is run.
use Rattle.std.proofs.Common.{map}
use Rattle.std.proofs.lemmas.List.Sorted.{IsPermutation-refl}
use Rattle.blazes_words.specs.Requests.{why_shown}
use Rattle.command_checks.specs.Ends.{files_states, source}
use Rattle.blazes_commands.specs.Runs.Bench.{bench_states}
use Rattle.blazes_commands.proofs.Runs.RepliesLemmas.{kept_anyway, stop_replies, then_replies}
use Rattle.blazes_commands.specs.Finds.Checks as check
use Rattle.blazes_commands.specs.Finds.Finds.{SaysReasons, finding}
use Rattle.blazes_commands.proofs.Finds.FilesLemmas.{schedule_printable}
use Rattle.blazes_commands.proofs.find_calls.explaining.explained_file.Goals as goal

pub explained-requires : goal.explained-requires
explained-requires g c =
    let a = source (g.F.Files.held c.args.files.now) (g.F.Files.steady c.args.files.now) (g.F.Files.faults c.args.files.now) in
    let b = source (g.F.Files.held c.few_events_file.new.files) (g.F.Files.steady c.few_events_file.new.files) (g.F.Files.faults c.few_events_file.new.files) in
    record { fits = c.requires; printable = schedule_printable (files_states a b) c.args.words.now.schedule.now c.in_ok-schedule.schedule c.in_ok-schedule.ensures }

pub returns-in_err-schedule : goal.returns-in_err-schedule
returns-in_err-schedule g c =
    let asked = why_shown c.args.words.now in
    let bench = bench_states (map (λ b. (goal.Component-dyn g (b.vtable, b.value)).kind b.value) c.args.bench.now.items) (map (λ b. (goal.Component-dyn g (b.vtable, b.value)).kind b.value) c.args.bench.now.items) (map (λ b. (goal.Component-dyn g (b.vtable, b.value)).program b.value) c.args.bench.now.items) (map (λ b. (goal.Component-dyn g (b.vtable, b.value)).kept b.value) c.args.bench.now.items) in
    let a = source (g.F.Files.held c.args.files.now) (g.F.Files.steady c.args.files.now) (g.F.Files.faults c.args.files.now) in
    let b = source (g.F.Files.held c.few_events_file.new.files) (g.F.Files.steady c.few_events_file.new.files) (g.F.Files.faults c.few_events_file.new.files) in
    record {
      replies = stop_replies SaysReasons (files_states a b) bench (check.few_events_file asked.schedule) (λ lines. finding bench.kinds c.args.valid.now.view c.args.given.now lines asked) c.from_residual.result c.in_err-schedule.field-0.0 c.from_residual.ensures.1 c.in_err-schedule.ensures;
      kinds = kept_anyway bench c.from_residual.result (IsPermutation-refl bench.kinds);
    }

pub returns : goal.returns
returns g c =
    let asked = why_shown c.args.words.now in
    let bench = bench_states (map (λ b. (goal.Component-dyn g (b.vtable, b.value)).kind b.value) c.args.bench.now.items) (map (λ b. (goal.Component-dyn g (b.vtable, b.value)).kind b.value) c.explained.new.bench.items) (map (λ b. (goal.Component-dyn g (b.vtable, b.value)).program b.value) c.explained.new.bench.items) (map (λ b. (goal.Component-dyn g (b.vtable, b.value)).kept b.value) c.explained.new.bench.items) in
    let a = source (g.F.Files.held c.args.files.now) (g.F.Files.steady c.args.files.now) (g.F.Files.faults c.args.files.now) in
    let b = source (g.F.Files.held c.few_events_file.new.files) (g.F.Files.steady c.few_events_file.new.files) (g.F.Files.faults c.few_events_file.new.files) in
    record {
      replies = then_replies SaysReasons a b b bench (check.few_events_file asked.schedule) (λ lines. finding bench.kinds c.args.valid.now.view c.args.given.now lines asked) c.in_ok-schedule.schedule c.explained.result c.in_ok-schedule.ensures (c.explained.ensures.replies b);
      kinds = c.explained.ensures.kinds;
    }
