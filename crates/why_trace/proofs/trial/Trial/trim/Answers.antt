use Rattle.std.proofs.Common.{◌∙◌, Bor, ap}
use Rattle.topo_forms.specs.Valid.{Validated}
use Rattle.why_trace.specs.Code.Trials.{sought_of, is_yielded_by}
use Rattle.why_trace.proofs.Trimming.{trims_further, trimmed_last}
use Rattle.why_trace.proofs.trial.Trial.trim.Goals as goal

pub pass-requires-clause-same : goal.pass-requires-clause-same
pass-requires-clause-same g c = ap (λ (valid : Bor Validated). valid.now) c.loop.invariant.same ∙ c.requires.same

pub loop-preserved : goal.loop-preserved
loop-preserved g c = record {
  rest = trims_further (is_yielded_by (sought_of c.args.self.now)) c.loop.lines.items c.pass.new.lines.items c.args.lines.now.items c.in_ok-pass.field-0
      c.in_ok-pass.ensures.lines c.in_ok-pass.ensures.fewer c.if-branch.true c.loop.invariant.rest;
  same = c.pass.ensures.same ∙ c.loop.invariant.same;
  stands = c.in_ok-pass.ensures.stands;
  kinds = c.pass.ensures.kinds ∙ c.loop.invariant.kinds;
}

pub returns-clause-lines : goal.returns-clause-lines
returns-clause-lines g c =
    trimmed_last (is_yielded_by (sought_of c.args.self.now)) c.loop.lines.items c.pass.new.lines.items c.args.lines.now.items c.in_ok-pass.field-0
    c.in_ok-pass.ensures.lines c.in_ok-pass.ensures.fewer c.if-branch.false c.loop.invariant.rest
