use Rattle.std.proofs.Common.{sym, subst}
use Rattle.bloom_parse.specs.Parsing.{IsTextOf}
use Rattle.worked_calls.proofs.checked.checked_of.Goals as goal

pub returns : goal.returns
returns c = subst (IsTextOf c.args.text.now) (sym c.in_ok-check.ensures.checked.0) c.in_ok-module.ensures.read
