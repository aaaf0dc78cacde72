use Rattle.std.proofs.Common.{◌∙◌, Result, Ok, Err, ap, map, refl, subst}
use Rattle.topo_forms.specs.Data.{Data}
use Rattle.witness_check.specs.declared.difference.Which.TheVariants.{First, Second}
use Rattle.command_checks.specs.Reply.{Answer}
use Rattle.command_checks.specs.Script.{Bytes}
use Rattle.command_checks.specs.declared.reply.Reply.{Reply}
use Rattle.command_checks.specs.declared.status.Status.TheVariants.{Done}
use Rattle.command_checks.specs.declared.stop.Stop.{Stop}
use Rattle.blazes_commands.specs.Runs.Bench.{bench_states}
use Rattle.blazes_commands.specs.Finds.Code.Seen.{IsSeen, Sees, run_in}
use Rattle.blazes_commands.specs.Finds.Finds.{SaysWitness, comparing}
use Rattle.blazes_commands.specs.declared.find_calls.seeing.Seen.{Seen}
use Rattle.blazes_commands.proofs.Finds.RepliesLemmas.{loses_then, lost_keeps, lost_replies, stop_keeps}
use Rattle.blazes_commands.proofs.Finds.WitnessLemmas.{both_compared, first_stops, second_stops, taken_alike, taken_within}
use Rattle.blazes_commands.proofs.find_calls.witnessing.compared.Goals as goal

pub witness_text-requires : goal.witness_text-requires
witness_text-requires g c =
    let v = c.args.valid.now.view in
    let given = c.args.given in
    let one = c.in_ok-one.one in
    let other = c.in_ok-other.other in
    let run = run_in First (map (λ b. (goal.Component-dyn g (b.vtable, b.value)).kind b.value) c.args.bench.now.items) v given c.args.first.now in
    let last = run_in Second (map (λ b. (goal.Component-dyn g (b.vtable, b.value)).kind b.value) c.seen_after.new.bench.items) v given c.args.second.now in
    let before = subst (λ (d : Data). IsSeen v d (run_in First (map (λ b. (goal.Component-dyn g (b.vtable, b.value)).kind b.value) c.args.bench.now.items) v d c.args.first.now) one) c.in_ok-copy.ensures c.in_ok-one.ensures.sees in
    record {
      alike = taken_alike v given one other run last before c.in_ok-other.ensures.sees;
      within = taken_within v given one other run last before c.in_ok-other.ensures.sees;
    }

pub returns-in_err-one : goal.returns-in_err-one
returns-in_err-one g c =
    let v = c.args.valid.now.view in
    let bench = bench_states (map (λ b. (goal.Component-dyn g (b.vtable, b.value)).kind b.value) c.args.bench.now.items) (map (λ b. (goal.Component-dyn g (b.vtable, b.value)).kind b.value) c.seen_after.new.bench.items) (map (λ b. (goal.Component-dyn g (b.vtable, b.value)).program b.value) c.seen_after.new.bench.items) (map (λ b. (goal.Component-dyn g (b.vtable, b.value)).kept b.value) c.seen_after.new.bench.items) in
    let result = c.from_residual-in_err-one.result in
    let stop = c.in_err-one.field-0.0 in
    let is = c.from_residual-in_err-one.ensures.1 in
    let lost : Result Seen Stop = Err stop in
    record {
      replies = first_stops bench v c.args.given c.args.first.now c.args.second.now result stop is
          (subst (λ (d : Data). Sees v d (run_in First (map (λ b. (goal.Component-dyn g (b.vtable, b.value)).kind b.value) c.args.bench.now.items) v d c.args.first.now) lost) c.in_ok-copy.ensures c.in_err-one.ensures.sees);
      kinds = stop_keeps bench result lost stop is refl c.in_err-one.ensures.kinds;
    }

pub returns-in_err-other : goal.returns-in_err-other
returns-in_err-other g c =
    let v = c.args.valid.now.view in
    let given = c.args.given in
    let one = c.in_ok-one.one in
    let bench = bench_states (map (λ b. (goal.Component-dyn g (b.vtable, b.value)).kind b.value) c.args.bench.now.items) (map (λ b. (goal.Component-dyn g (b.vtable, b.value)).kind b.value) c.seen_after-2.new.bench.items) (map (λ b. (goal.Component-dyn g (b.vtable, b.value)).program b.value) c.seen_after-2.new.bench.items) (map (λ b. (goal.Component-dyn g (b.vtable, b.value)).kept b.value) c.seen_after-2.new.bench.items) in
    let middle = (map (λ b. (goal.Component-dyn g (b.vtable, b.value)).kind b.value) c.seen_after.new.bench.items) in
    let result = c.from_residual-in_err-other.result in
    let stop = c.in_err-other.field-0.0 in
    let is = c.from_residual-in_err-other.ensures.1 in
    let lost : Result Seen Stop = Err stop in
    let before = subst (λ (d : Data). IsSeen v d (run_in First bench.kinds v d c.args.first.now) one) c.in_ok-copy.ensures c.in_ok-one.ensures.sees in
    record {
      replies = second_stops bench v given c.args.first.now c.args.second.now result one before middle c.in_ok-one.ensures.kinds stop is c.in_err-other.ensures.sees;
      kinds = stop_keeps bench result lost stop is refl (loses_then bench.kinds middle bench.kinds_after lost c.in_ok-one.ensures.kinds c.in_err-other.ensures.kinds);
    }

pub returns-in_err-witness_text : goal.returns-in_err-witness_text
returns-in_err-witness_text g c =
    let bench = bench_states (map (λ b. (goal.Component-dyn g (b.vtable, b.value)).kind b.value) c.args.bench.now.items) (map (λ b. (goal.Component-dyn g (b.vtable, b.value)).kind b.value) c.seen_after-2.new.bench.items) (map (λ b. (goal.Component-dyn g (b.vtable, b.value)).program b.value) c.seen_after-2.new.bench.items) (map (λ b. (goal.Component-dyn g (b.vtable, b.value)).kept b.value) c.seen_after-2.new.bench.items) in
    let result = c.from_residual-in_err-witness_text.result in
    record {
      replies = lost_replies SaysWitness bench (comparing bench.kinds c.args.valid.now.view c.args.given c.args.first.now c.args.second.now) result c.from_residual-in_err-witness_text.ensures.1;
      kinds = lost_keeps bench result c.from_residual-in_err-witness_text.ensures.1;
    }

pub returns : goal.returns
returns g c =
    let v = c.args.valid.now.view in
    let given = c.args.given in
    let one = c.in_ok-one.one in
    let other = c.in_ok-other.other in
    let bench = bench_states (map (λ b. (goal.Component-dyn g (b.vtable, b.value)).kind b.value) c.args.bench.now.items) (map (λ b. (goal.Component-dyn g (b.vtable, b.value)).kind b.value) c.seen_after-2.new.bench.items) (map (λ b. (goal.Component-dyn g (b.vtable, b.value)).program b.value) c.seen_after-2.new.bench.items) (map (λ b. (goal.Component-dyn g (b.vtable, b.value)).kept b.value) c.seen_after-2.new.bench.items) in
    let middle = (map (λ b. (goal.Component-dyn g (b.vtable, b.value)).kind b.value) c.seen_after.new.bench.items) in
    let result : Result Reply Stop = Ok c.done.result in
    let told : Bytes → Answer = λ text. record { status = Done; text = text } in
    let before = subst (λ (d : Data). IsSeen v d (run_in First bench.kinds v d c.args.first.now) one) c.in_ok-copy.ensures c.in_ok-one.ensures.sees in
    let kept = c.in_ok-one.ensures.kinds in
    let all : Result Seen Stop = Ok other in
    record {
      replies = both_compared bench v given c.args.first.now c.args.second.now result one before middle kept other c.in_ok-other.ensures.sees c.known.ensures c.requires.fits c.requires.holds c.region_law.ensures.sound
          c.done.result refl (c.done.ensures ∙ ap told c.in_ok-witness_text.ensures);
      kinds = loses_then bench.kinds middle bench.kinds_after all kept c.in_ok-other.ensures.kinds;
    }
