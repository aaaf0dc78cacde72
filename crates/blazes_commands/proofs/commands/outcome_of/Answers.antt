use Rattle.std.proofs.Common.{map, subst, sym}
use Rattle.std.proofs.lemmas.List.Sorted.{IsPermutation-refl}
use Rattle.blazes_commands.specs.Code.Ran.{RepliesTo}
use Rattle.blazes_words.specs.Requests.{asked_by, files_shown, shard_shown, why_shown, witness_shown}
use Rattle.command_checks.specs.Ends.{files_states, source}
use Rattle.blazes_words.specs.Words.{IsWithin}
use Rattle.blazes_words.specs.declared.words.Request.{Request}
use Rattle.blazes_commands.specs.Runs.Bench.{bench_states}
use Rattle.blazes_commands.proofs.Runs.RepliesLemmas.{kept_anyway}
use Rattle.blazes_commands.proofs.LabelLemmas.{derive_replies, label_replies, plan_replies, shard_replies}
use Rattle.blazes_commands.proofs.FoundLemmas.{why_replies, witness_replies}
use Rattle.blazes_commands.proofs.RanLemmas.{restart_replies, run_replies}
use Rattle.blazes_commands.proofs.commands.outcome_of.Goals as goal

pub returns-in-Label : goal.returns-in-Label
returns-in-Label g c =
    let bench = bench_states (map (λ b. (goal.Component-dyn g (b.vtable, b.value)).kind b.value) c.args.bench.now.items) (map (λ b. (goal.Component-dyn g (b.vtable, b.value)).kind b.value) c.args.bench.now.items) (map (λ b. (goal.Component-dyn g (b.vtable, b.value)).program b.value) c.args.bench.now.items) (map (λ b. (goal.Component-dyn g (b.vtable, b.value)).kept b.value) c.args.bench.now.items) in
    let a = source (g.F.Files.held c.args.files.now) (g.F.Files.steady c.args.files.now) (g.F.Files.faults c.args.files.now) in
    let b = source (g.F.Files.held c.label.new.files) (g.F.Files.steady c.label.new.files) (g.F.Files.faults c.label.new.files) in
    record {
      replies = subst (λ (request : Request). RepliesTo (asked_by request) (files_states a b) bench c.label.result) (sym c.in-Label.is) (label_replies a b bench c.label.result c.in-Label.topology.now c.label.ensures);
      kinds = kept_anyway bench c.label.result (IsPermutation-refl bench.kinds);
    }

pub returns-in-Derive : goal.returns-in-Derive
returns-in-Derive g c =
    let bench = bench_states (map (λ b. (goal.Component-dyn g (b.vtable, b.value)).kind b.value) c.args.bench.now.items) (map (λ b. (goal.Component-dyn g (b.vtable, b.value)).kind b.value) c.args.bench.now.items) (map (λ b. (goal.Component-dyn g (b.vtable, b.value)).program b.value) c.args.bench.now.items) (map (λ b. (goal.Component-dyn g (b.vtable, b.value)).kept b.value) c.args.bench.now.items) in
    let a = source (g.F.Files.held c.args.files.now) (g.F.Files.steady c.args.files.now) (g.F.Files.faults c.args.files.now) in
    let b = source (g.F.Files.held c.derive.new.files) (g.F.Files.steady c.derive.new.files) (g.F.Files.faults c.derive.new.files) in
    record {
      replies = subst (λ (request : Request). RepliesTo (asked_by request) (files_states a b) bench c.derive.result) (sym c.in-Derive.is) (derive_replies a b bench c.derive.result c.in-Derive.topology.now c.derive.ensures);
      kinds = kept_anyway bench c.derive.result (IsPermutation-refl bench.kinds);
    }

pub returns-in-Plan : goal.returns-in-Plan
returns-in-Plan g c =
    let bench = bench_states (map (λ b. (goal.Component-dyn g (b.vtable, b.value)).kind b.value) c.args.bench.now.items) (map (λ b. (goal.Component-dyn g (b.vtable, b.value)).kind b.value) c.args.bench.now.items) (map (λ b. (goal.Component-dyn g (b.vtable, b.value)).program b.value) c.args.bench.now.items) (map (λ b. (goal.Component-dyn g (b.vtable, b.value)).kept b.value) c.args.bench.now.items) in
    let a = source (g.F.Files.held c.args.files.now) (g.F.Files.steady c.args.files.now) (g.F.Files.faults c.args.files.now) in
    let b = source (g.F.Files.held c.plan.new.files) (g.F.Files.steady c.plan.new.files) (g.F.Files.faults c.plan.new.files) in
    record {
      replies = subst (λ (request : Request). RepliesTo (asked_by request) (files_states a b) bench c.plan.result) (sym c.in-Plan.is) (plan_replies a b bench c.plan.result c.in-Plan.topology.now c.plan.ensures);
      kinds = kept_anyway bench c.plan.result (IsPermutation-refl bench.kinds);
    }

pub returns-in-Run : goal.returns-in-Run
returns-in-Run g c =
    let bench = bench_states (map (λ b. (goal.Component-dyn g (b.vtable, b.value)).kind b.value) c.args.bench.now.items) (map (λ b. (goal.Component-dyn g (b.vtable, b.value)).kind b.value) c.run.new.bench.items) (map (λ b. (goal.Component-dyn g (b.vtable, b.value)).program b.value) c.run.new.bench.items) (map (λ b. (goal.Component-dyn g (b.vtable, b.value)).kept b.value) c.run.new.bench.items) in
    let a = source (g.F.Files.held c.args.files.now) (g.F.Files.steady c.args.files.now) (g.F.Files.faults c.args.files.now) in
    let b = source (g.F.Files.held c.run.new.files) (g.F.Files.steady c.run.new.files) (g.F.Files.faults c.run.new.files) in
    record {
      replies = subst (λ (request : Request). RepliesTo (asked_by request) (files_states a b) bench c.run.result) (sym c.in-Run.is) (run_replies a b bench c.run.result (files_shown c.in-Run.names) c.run.ensures.replies);
      kinds = c.run.ensures.kinds;
    }

pub returns-in-Make : goal.returns-in-Make
returns-in-Make g c =
    let bench = bench_states (map (λ b. (goal.Component-dyn g (b.vtable, b.value)).kind b.value) c.args.bench.now.items) (map (λ b. (goal.Component-dyn g (b.vtable, b.value)).kind b.value) c.make.new.bench.items) (map (λ b. (goal.Component-dyn g (b.vtable, b.value)).program b.value) c.make.new.bench.items) (map (λ b. (goal.Component-dyn g (b.vtable, b.value)).kept b.value) c.make.new.bench.items) in
    let files = files_states (source (g.F.Files.held c.args.files.now) (g.F.Files.steady c.args.files.now) (g.F.Files.faults c.args.files.now)) (source (g.F.Files.held c.make.new.files) (g.F.Files.steady c.make.new.files) (g.F.Files.faults c.make.new.files)) in
    record {
      replies = subst (λ (request : Request). RepliesTo (asked_by request) files bench c.make.result) (sym c.in-Make.is) c.make.ensures.replies;
      kinds = c.make.ensures.kinds;
    }

pub returns-in-Soak : goal.returns-in-Soak
returns-in-Soak g c =
    let bench = bench_states (map (λ b. (goal.Component-dyn g (b.vtable, b.value)).kind b.value) c.args.bench.now.items) (map (λ b. (goal.Component-dyn g (b.vtable, b.value)).kind b.value) c.soak.new.bench.items) (map (λ b. (goal.Component-dyn g (b.vtable, b.value)).program b.value) c.soak.new.bench.items) (map (λ b. (goal.Component-dyn g (b.vtable, b.value)).kept b.value) c.soak.new.bench.items) in
    let files = source (g.F.Files.held c.args.files.now) (g.F.Files.steady c.args.files.now) (g.F.Files.faults c.args.files.now) in
    record {
      replies = subst (λ (request : Request). RepliesTo (asked_by request) (files_states files files) bench c.soak.result) (sym c.in-Soak.is) (c.soak.ensures.replies files);
      kinds = c.soak.ensures.kinds;
    }

pub returns-in-Shard : goal.returns-in-Shard
returns-in-Shard g c =
    let bench = bench_states (map (λ b. (goal.Component-dyn g (b.vtable, b.value)).kind b.value) c.args.bench.now.items) (map (λ b. (goal.Component-dyn g (b.vtable, b.value)).kind b.value) c.args.bench.now.items) (map (λ b. (goal.Component-dyn g (b.vtable, b.value)).program b.value) c.args.bench.now.items) (map (λ b. (goal.Component-dyn g (b.vtable, b.value)).kept b.value) c.args.bench.now.items) in
    let a = source (g.F.Files.held c.args.files.now) (g.F.Files.steady c.args.files.now) (g.F.Files.faults c.args.files.now) in
    let b = source (g.F.Files.held c.shard.new.files) (g.F.Files.steady c.shard.new.files) (g.F.Files.faults c.shard.new.files) in
    record {
      replies = subst (λ (request : Request). RepliesTo (asked_by request) (files_states a b) bench c.shard.result) (sym c.in-Shard.is) (shard_replies a b bench c.shard.result (shard_shown c.in-Shard.words) c.shard.ensures);
      kinds = kept_anyway bench c.shard.result (IsPermutation-refl bench.kinds);
    }

pub returns-in-Restart : goal.returns-in-Restart
returns-in-Restart g c =
    let bench = bench_states (map (λ b. (goal.Component-dyn g (b.vtable, b.value)).kind b.value) c.args.bench.now.items) (map (λ b. (goal.Component-dyn g (b.vtable, b.value)).kind b.value) c.restart.new.bench.items) (map (λ b. (goal.Component-dyn g (b.vtable, b.value)).program b.value) c.restart.new.bench.items) (map (λ b. (goal.Component-dyn g (b.vtable, b.value)).kept b.value) c.restart.new.bench.items) in
    let a = source (g.F.Files.held c.args.files.now) (g.F.Files.steady c.args.files.now) (g.F.Files.faults c.args.files.now) in
    let b = source (g.F.Files.held c.restart.new.files) (g.F.Files.steady c.restart.new.files) (g.F.Files.faults c.restart.new.files) in
    record {
      replies = subst (λ (request : Request). RepliesTo (asked_by request) (files_states a b) bench c.restart.result) (sym c.in-Restart.is) (restart_replies a b bench c.restart.result (files_shown c.in-Restart.names) c.restart.ensures.replies);
      kinds = c.restart.ensures.kinds;
    }

pub returns-in-Witness : goal.returns-in-Witness
returns-in-Witness g c =
    let bench = bench_states (map (λ b. (goal.Component-dyn g (b.vtable, b.value)).kind b.value) c.args.bench.now.items) (map (λ b. (goal.Component-dyn g (b.vtable, b.value)).kind b.value) c.witness.new.bench.items) (map (λ b. (goal.Component-dyn g (b.vtable, b.value)).program b.value) c.witness.new.bench.items) (map (λ b. (goal.Component-dyn g (b.vtable, b.value)).kept b.value) c.witness.new.bench.items) in
    let a = source (g.F.Files.held c.args.files.now) (g.F.Files.steady c.args.files.now) (g.F.Files.faults c.args.files.now) in
    let b = source (g.F.Files.held c.witness.new.files) (g.F.Files.steady c.witness.new.files) (g.F.Files.faults c.witness.new.files) in
    record {
      replies = subst (λ (request : Request). RepliesTo (asked_by request) (files_states a b) bench c.witness.result) (sym c.in-Witness.is) (witness_replies a b bench c.witness.result (witness_shown c.in-Witness.names) c.witness.ensures.replies);
      kinds = c.witness.ensures.kinds;
    }

pub returns-in-Why : goal.returns-in-Why
returns-in-Why g c =
    let bench = bench_states (map (λ b. (goal.Component-dyn g (b.vtable, b.value)).kind b.value) c.args.bench.now.items) (map (λ b. (goal.Component-dyn g (b.vtable, b.value)).kind b.value) c.why.new.bench.items) (map (λ b. (goal.Component-dyn g (b.vtable, b.value)).program b.value) c.why.new.bench.items) (map (λ b. (goal.Component-dyn g (b.vtable, b.value)).kept b.value) c.why.new.bench.items) in
    let a = source (g.F.Files.held c.args.files.now) (g.F.Files.steady c.args.files.now) (g.F.Files.faults c.args.files.now) in
    let b = source (g.F.Files.held c.why.new.files) (g.F.Files.steady c.why.new.files) (g.F.Files.faults c.why.new.files) in
    record {
      replies = subst (λ (request : Request). RepliesTo (asked_by request) (files_states a b) bench c.why.result) (sym c.in-Why.is) (why_replies a b bench c.why.result (why_shown c.in-Why.words) c.why.ensures.replies);
      kinds = c.why.ensures.kinds;
    }

pub shard-requires : goal.shard-requires
shard-requires g c = subst (λ (request : Request). IsWithin (asked_by request)) c.in-Shard.is c.requires
