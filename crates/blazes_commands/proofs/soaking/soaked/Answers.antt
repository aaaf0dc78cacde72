use Rattle.std.proofs.Common.{map}
use Rattle.std.proofs.lemmas.List.Sorted.{IsPermutation-refl}
use Rattle.topo_forms.specs.Data.{Data}
use Rattle.blazes_words.specs.Requests.{soak_shown}
use Rattle.blazes_commands.specs.Runs.Bench.{bench_states}
use Rattle.blazes_commands.proofs.Runs.RepliesLemmas.{kept_anyway}
use Rattle.blazes_commands.proofs.SoakLemmas.{tweets_stop, tweets_then}
use Rattle.blazes_commands.proofs.soaking.soaked.Goals as goal

pub soaked_over-requires : goal.soaked_over-requires
soaked_over-requires g c = record { fits = c.in_ok-given.ensures.fits; coordinated = c.requires }

pub returns-in_err-given : goal.returns-in_err-given
returns-in_err-given g c =
    let bench = bench_states (map (λ b. (goal.Component-dyn g (b.vtable, b.value)).kind b.value) c.args.bench.now.items) (map (λ b. (goal.Component-dyn g (b.vtable, b.value)).kind b.value) c.args.bench.now.items) (map (λ b. (goal.Component-dyn g (b.vtable, b.value)).program b.value) c.args.bench.now.items) (map (λ b. (goal.Component-dyn g (b.vtable, b.value)).kept b.value) c.args.bench.now.items) in
    record {
      replies = tweets_stop bench (soak_shown c.args.words) c.from_residual.result c.args.valid.now.view (λ (given : Data). given) c.in_err-given.field-0.0 c.from_residual.ensures.1 c.in_err-given.ensures.gives;
      kinds = kept_anyway bench c.from_residual.result (IsPermutation-refl bench.kinds);
    }

pub returns : goal.returns
returns g c =
    let bench = bench_states (map (λ b. (goal.Component-dyn g (b.vtable, b.value)).kind b.value) c.args.bench.now.items) (map (λ b. (goal.Component-dyn g (b.vtable, b.value)).kind b.value) c.soaked_over.new.bench.items) (map (λ b. (goal.Component-dyn g (b.vtable, b.value)).program b.value) c.soaked_over.new.bench.items) (map (λ b. (goal.Component-dyn g (b.vtable, b.value)).kept b.value) c.soaked_over.new.bench.items) in
    record {
      replies = tweets_then bench (soak_shown c.args.words) c.soaked_over.result c.args.valid.now.view c.in_ok-given.given c.in_ok-given.ensures.gives c.soaked_over.ensures.replies;
      kinds = c.soaked_over.ensures.kinds;
    }
