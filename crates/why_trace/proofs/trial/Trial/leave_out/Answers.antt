use Rattle.std.proofs.Common.{◌-◌, ap, take, arith}
use Rattle.why_trace.specs.Code.Trials.{sought_of, is_yielded_by}
use Rattle.why_trace.proofs.AsideLemmas.{left_out, left_in}
use Rattle.why_trace.proofs.trial.Trial.leave_out.Goals as goal

pub returns-then-branch : goal.returns-then-branch
returns-then-branch g c =
    let moved = c.set_aside.new.items.items in
    let others = c.len-others.result - 1 in
    record {
      lines = left_out (is_yielded_by (sought_of c.args.self.now)) c.args.lines.now.items moved (take others c.deref.result.now) c.truncate.new.self.items c.args.place others c.in_ok-is_yielded_by.field-0
          c.set_aside.ensures.aside (omega arith) (ap (take others) c.deref.ensures.value) c.in_ok-is_yielded_by.ensures.found c.if-branch.true c.truncate.ensures.items;
      same = c.is_yielded_by.ensures.same;
      stands = c.in_ok-is_yielded_by.ensures.stands;
      kinds = c.is_yielded_by.ensures.kinds;
    }

pub returns : goal.returns
returns g c =
    let moved = c.set_aside.new.items.items in
    let others = c.len-others.result - 1 in
    record {
      lines = left_in (is_yielded_by (sought_of c.args.self.now)) c.args.lines.now.items moved (take others c.deref.result.now) c.set_back.new.items.items c.args.place others c.in_ok-is_yielded_by.field-0
          c.set_aside.ensures.aside (omega arith) (ap (take others) c.deref.ensures.value) c.in_ok-is_yielded_by.ensures.found c.if-branch.false (c.set_back.ensures c.args.lines.now.items c.set_aside.ensures.aside);
      same = c.is_yielded_by.ensures.same;
      stands = c.in_ok-is_yielded_by.ensures.stands;
      kinds = c.is_yielded_by.ensures.kinds;
    }
