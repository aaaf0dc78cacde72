use Rattle.std.proofs.Common.{ap, map, ◌∙◌}
use Rattle.sched_net.specs.declared.step.Step.TheVariants as named
use Rattle.sched_net.proofs.FirstLemmas.{applied_first, new_runs, runs_after}
use Rattle.topo_forms.specs.Valid.{Validated}
use Rattle.blazes_words.specs.Requests.{why_shown}
use Rattle.blazes_commands.proofs.Runs.BenchLemmas.{same_kinds}
use Rattle.blazes_commands.proofs.Finds.LookedLemmas.{net_looks, opening_looks}
use Rattle.blazes_commands.proofs.Finds.RepliesLemmas.{loses_none}
use Rattle.blazes_commands.proofs.find_calls.finding.wanted_after.Goals as goal

pub run-applied-requires : goal.run-applied-requires
run-applied-requires g c =
    let net = c.in_ok-net.net in
    record {
      runs = new_runs c.args.valid.now.view net.valid.now.view c.args.given (map (λ b. (goal.Component-dyn g (b.vtable, b.value)).program b.value) net.shells.items) (map (λ b. (goal.Component-dyn g (b.vtable, b.value)).kept b.value) net.shells.items) net.books
          (ap (λ (t : Validated). t.view) c.in_ok-net.ensures.valid) c.in_ok-net.ensures.stands;
    }

pub outcome_of-outcome-requires : goal.outcome_of-outcome-requires
outcome_of-outcome-requires g c =
    let net = c.in_ok-net.net in
    let after = c.run-applied.new.net in
    let same = ap (λ (t : Validated). t.view) c.in_ok-net.ensures.valid in
    record {
      same = ap (λ valid. valid.now.view) c.run-applied.ensures.valid ∙ same;
      runs = runs_after named.Event c.args.valid.now.view net.valid.now.view c.args.given c.args.lines.now (map (λ b. (goal.Component-dyn g (b.vtable, b.value)).program b.value) net.shells.items) (map (λ b. (goal.Component-dyn g (b.vtable, b.value)).kept b.value) net.shells.items) (map (λ b. (goal.Component-dyn g (b.vtable, b.value)).kept b.value) after.shells.items)
          net.books after.books c.run-applied.result same c.in_ok-net.ensures.stands c.run-applied.ensures.applies;
    }

pub returns-in_err-net : goal.returns-in_err-net
returns-in_err-net g c = record {
  looks = opening_looks (map (λ b. (goal.Component-dyn g (b.vtable, b.value)).kind b.value) c.args.bench.now.items) c.args.valid.now.view c.args.given c.args.lines.now (why_shown c.args.words.now) c.from_residual.result c.in_err-net.field-0.0 c.from_residual.ensures.1 c.in_err-net.ensures.gives;
  kinds = loses_none (map (λ b. (goal.Component-dyn g (b.vtable, b.value)).kind b.value) c.args.bench.now.items) (map (λ b. (goal.Component-dyn g (b.vtable, b.value)).kind b.value) c.opened.new.bench.items) c.from_residual.result c.in_err-net.ensures.unopened;
}

pub returns : goal.returns
returns g c =
    let v = c.args.valid.now.view in
    let net = c.in_ok-net.net in
    let after = c.run-applied.new.net in
    let same = ap (λ (t : Validated). t.view) c.in_ok-net.ensures.valid in
    record {
      looks = net_looks (map (λ b. (goal.Component-dyn g (b.vtable, b.value)).kind b.value) c.args.bench.now.items) v c.args.given c.args.lines.now (why_shown c.args.words.now) (map (λ b. (goal.Component-dyn g (b.vtable, b.value)).program b.value) net.shells.items) (map (λ b. (goal.Component-dyn g (b.vtable, b.value)).kept b.value) after.shells.items) after.books c.run-applied.result c.outcome_of-outcome.result c.in_ok-net.ensures.gives
          (applied_first named.Event v net.valid.now.view c.args.given c.args.lines.now (map (λ b. (goal.Component-dyn g (b.vtable, b.value)).program b.value) net.shells.items) (map (λ b. (goal.Component-dyn g (b.vtable, b.value)).kept b.value) net.shells.items) (map (λ b. (goal.Component-dyn g (b.vtable, b.value)).kept b.value) after.shells.items) net.books after.books c.run-applied.result same c.in_ok-net.ensures.stands c.run-applied.ensures.applies)
          c.outcome_of-outcome.ensures;
      kinds = loses_none (map (λ b. (goal.Component-dyn g (b.vtable, b.value)).kind b.value) c.args.bench.now.items) (map (λ b. (goal.Component-dyn g (b.vtable, b.value)).kind b.value) c.close.new.bench.items) c.outcome_of-outcome.result
          (same_kinds (λ b. (goal.Component-dyn g (b.vtable, b.value)).kind b.value) (map (λ b. (goal.Component-dyn g (b.vtable, b.value)).kind b.value) c.args.bench.now.items) c.opened.new.bench.items net.shells.items after.shells.items c.close.new.bench.items c.in_ok-net.ensures.kinds c.run-applied.ensures.kinds c.in_ok-close.ensures.ok);
    }
