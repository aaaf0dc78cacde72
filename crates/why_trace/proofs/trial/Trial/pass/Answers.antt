use Rattle.std.proofs.Common.{◌-◌, ◌∙◌, Bor, ap, arith}
use Rattle.topo_forms.specs.Valid.{Validated}
use Rattle.why_trace.specs.Passes.{one_pass}
use Rattle.why_trace.specs.Code.Trials.{sought_of, is_yielded_by}
use Rattle.why_trace.proofs.Trimming.{passed_on, place_inside}
use Rattle.why_trace.proofs.trial.Trial.pass.Goals as goal

pub leave_out-requires-clause-same : goal.leave_out-requires-clause-same
leave_out-requires-clause-same g c = ap (λ (valid : Bor Validated). valid.now) c.loop-place.invariant.same ∙ c.requires.same

pub loop-place-preserved : goal.loop-place-preserved
loop-place-preserved g c =
    let test = is_yielded_by (sought_of c.args.self.now) in
    let place = c.loop-place.place in
    let before = c.loop-place.lines.items in
    let after = c.leave_out.new.lines.items in
    record {
      inside = place_inside test (place - 1) before after (omega (arith, c.loop-place-test.true, c.loop-place.invariant.inside)) c.in_ok-leave_out.ensures.lines;
      rest = passed_on test place before after (one_pass test c.args.lines.now.items) (omega (arith, c.loop-place-test.true)) c.in_ok-leave_out.ensures.lines c.loop-place.invariant.rest;
      same = c.leave_out.ensures.same ∙ c.loop-place.invariant.same;
      stands = c.in_ok-leave_out.ensures.stands;
      kinds = c.leave_out.ensures.kinds ∙ c.loop-place.invariant.kinds;
    }
