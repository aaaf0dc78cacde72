use Rattle.std.proofs.Common.{◌∙◌, ap, map}
use Rattle.topo_forms.specs.Valid.{Validated}
use Rattle.blazes_commands.specs.Checks as check
use Rattle.blazes_commands.specs.Commands.{Says, Work}
use Rattle.command_checks.specs.Script.{Script, ◌>>=◌}
use Rattle.blazes_commands.specs.Runs.Bench.{bench_states}
use Rattle.blazes_commands.proofs.Runs.BenchLemmas.{same_kinds}
use Rattle.blazes_commands.proofs.Runs.OpeningLemmas.{opening_stops}
use Rattle.blazes_commands.proofs.Runs.RepliesLemmas.{kept_anyway}
use Rattle.blazes_commands.proofs.MakeLemmas.{runs_first}
use Rattle.blazes_commands.proofs.SoakLemmas.{runs_on, sums_reply}
use Rattle.blazes_commands.proofs.soaking.soaked_over.Goals as goal

pub make_numbered-made-requires : goal.make_numbered-made-requires
make_numbered-made-requires g c =
    let net = c.in_ok-net.net in
    runs_first c.args.valid.now.view net.valid.now.view c.args.given (map (λ b. (goal.Component-dyn g (b.vtable, b.value)).program b.value) net.shells.items) (map (λ b. (goal.Component-dyn g (b.vtable, b.value)).kept b.value) net.shells.items) net.books
    (ap (λ (t : Validated). t.view) c.in_ok-net.ensures.valid) c.in_ok-net.ensures.stands

pub outcome_of-outcome-requires : goal.outcome_of-outcome-requires
outcome_of-outcome-requires g c =
    let net = c.in_ok-net.net in
    let after = c.make_numbered-made.new.net in
    let same = ap (λ (t : Validated). t.view) c.in_ok-net.ensures.valid in
    record {
      same = ap (λ valid. valid.now.view) c.make_numbered-made.ensures.valid ∙ same;
      runs = runs_on c.args.valid.now.view c.args.given (map (λ b. (goal.Component-dyn g (b.vtable, b.value)).program b.value) net.shells.items) (map (λ b. (goal.Component-dyn g (b.vtable, b.value)).kept b.value) net.shells.items) (map (λ b. (goal.Component-dyn g (b.vtable, b.value)).kept b.value) after.shells.items) net.books after.books
          net.valid.now.view c.make_numbered-made.result same c.in_ok-net.ensures.stands c.make_numbered-made.ensures.leaves;
      coordinated = c.requires.coordinated;
    }

pub returns-in_err-net : goal.returns-in_err-net
returns-in_err-net g c =
    let v = c.args.valid.now.view in
    let bench = bench_states (map (λ b. (goal.Component-dyn g (b.vtable, b.value)).kind b.value) c.args.bench.now.items) (map (λ b. (goal.Component-dyn g (b.vtable, b.value)).kind b.value) c.opened.new.bench.items) (map (λ b. (goal.Component-dyn g (b.vtable, b.value)).program b.value) c.opened.new.bench.items) (map (λ b. (goal.Component-dyn g (b.vtable, b.value)).kept b.value) c.opened.new.bench.items) in
    record {
      replies = λ s. opening_stops Says v bench (check.making v c.args.given c.args.words.seed >>= λ events. Script.gives (Work.soaked c.args.words.count v c.args.given events)) c.from_residual.result s c.in_err-net.field-0.0
          c.from_residual.ensures.1 c.in_err-net.ensures.gives;
      kinds = kept_anyway bench c.from_residual.result c.in_err-net.ensures.unopened;
    }

pub returns : goal.returns
returns g c =
    let net = c.in_ok-net.net in
    let after = c.make_numbered-made.new.net in
    let all = c.close.new.bench.items in
    let bench = bench_states (map (λ b. (goal.Component-dyn g (b.vtable, b.value)).kind b.value) c.args.bench.now.items) (map (λ b. (goal.Component-dyn g (b.vtable, b.value)).kind b.value) all) (map (λ b. (goal.Component-dyn g (b.vtable, b.value)).program b.value) all) (map (λ b. (goal.Component-dyn g (b.vtable, b.value)).kept b.value) all) in
    record {
      replies = λ s. sums_reply c.args.words.count c.args.valid.now.view c.args.given c.args.words.seed (map (λ b. (goal.Component-dyn g (b.vtable, b.value)).program b.value) net.shells.items) (map (λ b. (goal.Component-dyn g (b.vtable, b.value)).kept b.value) net.shells.items) (map (λ b. (goal.Component-dyn g (b.vtable, b.value)).kept b.value) after.shells.items) net.books after.books
          bench s net.valid.now.view c.make_numbered-made.result c.outcome_of-outcome.result c.in_ok-net.ensures.gives (ap (λ (t : Validated). t.view) c.in_ok-net.ensures.valid) c.in_ok-net.ensures.stands
          c.make_numbered-made.ensures.made c.make_numbered-made.ensures.leaves c.outcome_of-outcome.ensures;
      kinds = kept_anyway bench c.outcome_of-outcome.result
          (same_kinds (λ b. (goal.Component-dyn g (b.vtable, b.value)).kind b.value) bench.kinds c.opened.new.bench.items net.shells.items after.shells.items all c.in_ok-net.ensures.kinds c.make_numbered-made.ensures.kinds c.in_ok-close.ensures.ok);
    }
