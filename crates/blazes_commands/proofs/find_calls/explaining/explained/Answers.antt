use Rattle.std.proofs.Common.{List, Result, Ok, Err, map, refl, subst}
use Rattle.std.proofs.lemmas.List.Sorted.{IsPermutation-trans}
use Rattle.sched_net.specs.ScheduleLines.{Line}
use Rattle.topo_forms.specs.Data.{Data}
use Rattle.blazes_words.specs.Requests.{why_shown}
use Rattle.command_checks.specs.Ran.{RanAtOnce}
use Rattle.command_checks.specs.declared.reply.Reply.{Reply}
use Rattle.command_checks.specs.declared.stop.Stop.{Stop}
use Rattle.blazes_commands.specs.Runs.Bench.{bench_states}
use Rattle.blazes_commands.specs.Finds.Code.Looked.{wanted_shown}
use Rattle.blazes_commands.specs.Finds.Finds.{SaysReasons, finding, looking}
use Rattle.blazes_commands.specs.declared.find_calls.finding.Wanted.{Wanted}
use Rattle.blazes_commands.proofs.Finds.RepliesLemmas.{lost_keeps, lost_replies, stop_keeps}
use Rattle.blazes_commands.proofs.Finds.ReasonsLemmas.{found_opens, found_replies, looked_found, search_stops}
use Rattle.blazes_commands.proofs.find_calls.explaining.explained.Goals as goal

pub reasons-requires : goal.reasons-requires
reasons-requires g c =
    let v = c.args.valid.now.view in
    let given = c.args.given.now in
    let lines = c.args.schedule.now in
    let words = why_shown c.args.words.now in
    let kinds = (map (λ b. (goal.Component-dyn g (b.vtable, b.value)).kind b.value) c.args.bench.now.items) in
    let found : Result Wanted Stop = Ok c.in_ok-wanted.wanted in
    let looks = subst (λ (l : List Line). RanAtOnce wanted_shown found (looking kinds v given l words)) c.lines.ensures
    (subst (λ (d : Data). RanAtOnce wanted_shown found (looking kinds v d c.lines.result.now words)) c.in_ok-copy.ensures c.in_ok-wanted.ensures.looks) in
    let is = looked_found kinds v given lines words c.in_ok-wanted.wanted looks in
    record {
      fits = c.requires.fits;
      opens = found_opens kinds (map (λ b. (goal.Component-dyn g (b.vtable, b.value)).kind b.value) c.wanted_after.new.bench.items) v given lines (wanted_shown c.in_ok-wanted.wanted) is c.in_ok-wanted.ensures.kinds;
      stream = is.stream;
      yields = is.yielded;
      printable = c.requires.printable;
    }

pub returns-in_err-wanted : goal.returns-in_err-wanted
returns-in_err-wanted g c =
    let v = c.args.valid.now.view in
    let given = c.args.given.now in
    let words = why_shown c.args.words.now in
    let bench = bench_states (map (λ b. (goal.Component-dyn g (b.vtable, b.value)).kind b.value) c.args.bench.now.items) (map (λ b. (goal.Component-dyn g (b.vtable, b.value)).kind b.value) c.wanted_after.new.bench.items) (map (λ b. (goal.Component-dyn g (b.vtable, b.value)).program b.value) c.wanted_after.new.bench.items) (map (λ b. (goal.Component-dyn g (b.vtable, b.value)).kept b.value) c.wanted_after.new.bench.items) in
    let result = c.from_residual-in_err-wanted.result in
    let stop = c.in_err-wanted.field-0.0 in
    let is = c.from_residual-in_err-wanted.ensures.1 in
    let lost : Result Wanted Stop = Err stop in
    record {
      replies = search_stops bench v given c.args.schedule.now words result stop is
          (subst (λ (l : List Line). RanAtOnce wanted_shown lost (looking bench.kinds v given l words)) c.lines.ensures
          (subst (λ (d : Data). RanAtOnce wanted_shown lost (looking bench.kinds v d c.lines.result.now words)) c.in_ok-copy.ensures c.in_err-wanted.ensures.looks));
      kinds = stop_keeps bench result lost stop is refl c.in_err-wanted.ensures.kinds;
    }

pub returns-in_err-reasons : goal.returns-in_err-reasons
returns-in_err-reasons g c =
    let bench = bench_states (map (λ b. (goal.Component-dyn g (b.vtable, b.value)).kind b.value) c.args.bench.now.items) (map (λ b. (goal.Component-dyn g (b.vtable, b.value)).kind b.value) c.reasons.new.bench.items) (map (λ b. (goal.Component-dyn g (b.vtable, b.value)).program b.value) c.reasons.new.bench.items) (map (λ b. (goal.Component-dyn g (b.vtable, b.value)).kept b.value) c.reasons.new.bench.items) in
    let result = c.from_residual-in_err-reasons.result in
    record {
      replies = lost_replies SaysReasons bench (finding bench.kinds c.args.valid.now.view c.args.given.now c.args.schedule.now (why_shown c.args.words.now)) result c.from_residual-in_err-reasons.ensures.1;
      kinds = lost_keeps bench result c.from_residual-in_err-reasons.ensures.1;
    }

pub returns : goal.returns
returns g c =
    let v = c.args.valid.now.view in
    let given = c.args.given.now in
    let words = why_shown c.args.words.now in
    let bench = bench_states (map (λ b. (goal.Component-dyn g (b.vtable, b.value)).kind b.value) c.args.bench.now.items) (map (λ b. (goal.Component-dyn g (b.vtable, b.value)).kind b.value) c.reasons.new.bench.items) (map (λ b. (goal.Component-dyn g (b.vtable, b.value)).program b.value) c.reasons.new.bench.items) (map (λ b. (goal.Component-dyn g (b.vtable, b.value)).kept b.value) c.reasons.new.bench.items) in
    let found : Result Wanted Stop = Ok c.in_ok-wanted.wanted in
    let reply = c.in_ok-reasons.field-0 in
    let result : Result Reply Stop = Ok reply in
    record {
      replies = found_replies bench v given c.args.schedule.now words result c.in_ok-wanted.wanted reply refl
          (subst (λ (l : List Line). RanAtOnce wanted_shown found (looking bench.kinds v given l words)) c.lines.ensures
          (subst (λ (d : Data). RanAtOnce wanted_shown found (looking bench.kinds v d c.lines.result.now words)) c.in_ok-copy.ensures c.in_ok-wanted.ensures.looks))
          c.in_ok-reasons.ensures.says;
      kinds = IsPermutation-trans bench.kinds (map (λ b. (goal.Component-dyn g (b.vtable, b.value)).kind b.value) c.wanted_after.new.bench.items) bench.kinds_after c.in_ok-wanted.ensures.kinds c.in_ok-reasons.ensures.kinds;
    }
