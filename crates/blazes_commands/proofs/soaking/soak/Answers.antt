use Rattle.std.proofs.Common.{map}
use Rattle.std.proofs.lemmas.List.Sorted.{IsPermutation-refl}
use Rattle.topo_forms.specs.Valid.{Validated}
use Rattle.blazes_words.specs.Requests.{soak_shown}
use Rattle.blazes_commands.specs.Runs.Bench.{bench_states}
use Rattle.blazes_commands.proofs.Runs.RepliesLemmas.{kept_anyway}
use Rattle.blazes_commands.proofs.SoakLemmas.{plan_stops, plan_then}
use Rattle.blazes_commands.proofs.soaking.soak.Goals as goal

pub returns-in_err-valid : goal.returns-in_err-valid
returns-in_err-valid g c =
    let bench = bench_states (map (λ b. (goal.Component-dyn g (b.vtable, b.value)).kind b.value) c.args.bench.now.items) (map (λ b. (goal.Component-dyn g (b.vtable, b.value)).kind b.value) c.args.bench.now.items) (map (λ b. (goal.Component-dyn g (b.vtable, b.value)).program b.value) c.args.bench.now.items) (map (λ b. (goal.Component-dyn g (b.vtable, b.value)).kept b.value) c.args.bench.now.items) in
    record {
      replies = plan_stops bench (soak_shown c.args.words) c.from_residual.result (λ (valid : Validated). valid.view) c.in_err-valid.field-0.0 c.from_residual.ensures.1 c.in_err-valid.ensures.ran;
      kinds = kept_anyway bench c.from_residual.result (IsPermutation-refl bench.kinds);
    }

pub returns : goal.returns
returns g c =
    let bench = bench_states (map (λ b. (goal.Component-dyn g (b.vtable, b.value)).kind b.value) c.args.bench.now.items) (map (λ b. (goal.Component-dyn g (b.vtable, b.value)).kind b.value) c.soaked.new.bench.items) (map (λ b. (goal.Component-dyn g (b.vtable, b.value)).program b.value) c.soaked.new.bench.items) (map (λ b. (goal.Component-dyn g (b.vtable, b.value)).kept b.value) c.soaked.new.bench.items) in
    record {
      replies = plan_then bench (soak_shown c.args.words) c.soaked.result (λ (valid : Validated). valid.view) c.in_ok-valid.valid c.in_ok-valid.ensures.ran c.soaked.ensures.replies;
      kinds = c.soaked.ensures.kinds;
    }
