use Rattle.std.proofs.Common.{◌≢◌, rules}
use Rattle.blz_value.proofs.Reached.{compatible-from, compatible-inside}
use Rattle.fd_closure.proofs.gates.compatible.Goals as goal

pub returns-then-not-is_empty-clause-exact : goal.returns-then-not-is_empty-clause-exact
returns-then-not-is_empty-clause-exact c =
    let filled : c.args.key.bits ≢ 0 = search rules in
    rw c.is_within.ensures.computed (
      compatible-from c.args.gate.bits c.args.key.bits c.args.fds.now c.closure.result.bits filled c.closure.ensures.least,
      compatible-inside c.args.gate.bits c.args.key.bits c.args.fds.now c.closure.result.bits c.closure.ensures.least,
    )
