use Rattle.std.proofs.Common.{map}
use Rattle.std.proofs.lemmas.List.Sorted.{IsPermutation-refl}
use Rattle.blazes_words.specs.Requests.{why_shown}
use Rattle.command_checks.specs.Ends.{files_states, source}
use Rattle.blazes_commands.specs.Runs.Bench.{bench_states}
use Rattle.blazes_commands.proofs.Runs.FilesLemmas.{topology_stops, data_stops, files_then}
use Rattle.blazes_commands.proofs.Runs.RepliesLemmas.{kept_anyway}
use Rattle.blazes_commands.specs.Finds.Code.Looked.{finding_file}
use Rattle.blazes_commands.specs.Finds.Finds.{SaysReasons}
use Rattle.blazes_commands.proofs.find_calls.explaining.why.Goals as goal

pub returns-in_err-valid : goal.returns-in_err-valid
returns-in_err-valid g c =
    let asked = why_shown c.args.words in
    let bench = bench_states (map (λ b. (goal.Component-dyn g (b.vtable, b.value)).kind b.value) c.args.bench.now.items) (map (λ b. (goal.Component-dyn g (b.vtable, b.value)).kind b.value) c.args.bench.now.items) (map (λ b. (goal.Component-dyn g (b.vtable, b.value)).program b.value) c.args.bench.now.items) (map (λ b. (goal.Component-dyn g (b.vtable, b.value)).kept b.value) c.args.bench.now.items) in
    let a = source (g.F.Files.held c.args.files.now) (g.F.Files.steady c.args.files.now) (g.F.Files.faults c.args.files.now) in
    let b = source (g.F.Files.held c.valid_topology.new.files) (g.F.Files.steady c.valid_topology.new.files) (g.F.Files.faults c.valid_topology.new.files) in
    record {
      replies = topology_stops SaysReasons bench asked.topology asked.given (λ seen. finding_file bench.kinds asked seen.view) c.from_residual.result (files_states a b) c.in_err-valid.field-0.0 c.from_residual.ensures.1 c.in_err-valid.ensures;
      kinds = kept_anyway bench c.from_residual.result (IsPermutation-refl bench.kinds);
    }

pub returns-in_err-given : goal.returns-in_err-given
returns-in_err-given g c =
    let asked = why_shown c.args.words in
    let bench = bench_states (map (λ b. (goal.Component-dyn g (b.vtable, b.value)).kind b.value) c.args.bench.now.items) (map (λ b. (goal.Component-dyn g (b.vtable, b.value)).kind b.value) c.args.bench.now.items) (map (λ b. (goal.Component-dyn g (b.vtable, b.value)).program b.value) c.args.bench.now.items) (map (λ b. (goal.Component-dyn g (b.vtable, b.value)).kept b.value) c.args.bench.now.items) in
    let a = source (g.F.Files.held c.args.files.now) (g.F.Files.steady c.args.files.now) (g.F.Files.faults c.args.files.now) in
    let b = source (g.F.Files.held c.valid_topology.new.files) (g.F.Files.steady c.valid_topology.new.files) (g.F.Files.faults c.valid_topology.new.files) in
    let d = source (g.F.Files.held c.data_file.new.files) (g.F.Files.steady c.data_file.new.files) (g.F.Files.faults c.data_file.new.files) in
    record {
      replies = data_stops SaysReasons bench asked.topology asked.given (λ seen. finding_file bench.kinds asked seen.view) c.from_residual-in_err-given.result a b d c.in_ok-valid.valid c.in_err-given.field-0.0
          c.from_residual-in_err-given.ensures.1 c.in_ok-valid.ensures c.in_err-given.ensures.ran;
      kinds = kept_anyway bench c.from_residual-in_err-given.result (IsPermutation-refl bench.kinds);
    }

pub returns : goal.returns
returns g c =
    let asked = why_shown c.args.words in
    let bench = bench_states (map (λ b. (goal.Component-dyn g (b.vtable, b.value)).kind b.value) c.args.bench.now.items) (map (λ b. (goal.Component-dyn g (b.vtable, b.value)).kind b.value) c.explained_file.new.bench.items) (map (λ b. (goal.Component-dyn g (b.vtable, b.value)).program b.value) c.explained_file.new.bench.items) (map (λ b. (goal.Component-dyn g (b.vtable, b.value)).kept b.value) c.explained_file.new.bench.items) in
    let a = source (g.F.Files.held c.args.files.now) (g.F.Files.steady c.args.files.now) (g.F.Files.faults c.args.files.now) in
    let b = source (g.F.Files.held c.valid_topology.new.files) (g.F.Files.steady c.valid_topology.new.files) (g.F.Files.faults c.valid_topology.new.files) in
    let d = source (g.F.Files.held c.data_file.new.files) (g.F.Files.steady c.data_file.new.files) (g.F.Files.faults c.data_file.new.files) in
    let e = source (g.F.Files.held c.explained_file.new.files) (g.F.Files.steady c.explained_file.new.files) (g.F.Files.faults c.explained_file.new.files) in
    record {
      replies = files_then SaysReasons bench asked.topology asked.given (λ seen. finding_file bench.kinds asked seen.view) c.explained_file.result a b d e c.in_ok-valid.valid c.in_ok-given.given c.in_ok-valid.ensures c.in_ok-given.ensures.ran
          c.explained_file.ensures.replies;
      kinds = c.explained_file.ensures.kinds;
    }
