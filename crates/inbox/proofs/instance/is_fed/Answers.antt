use Rattle.std.proofs.Common.{◌∙◌, sym, length, arith}
use Rattle.blz_value.proofs.Ranges.{any_below}
use Rattle.topo_forms.specs.View.{goes_to}
use Rattle.inbox.proofs.Ranges.{none_below}
use Rattle.inbox.proofs.instance.is_fed.Goals as goal

pub returns-then-goes_to : goal.returns-then-goes_to
returns-then-goes_to c = sym (any_below (goes_to c.args.valid.now.view c.args.component c.args.port) (length c.args.valid.now.view.streams) c.loop-stream.stream (omega arith) (sym c.goes_to.ensures ∙ c.if-goes_to.true))

pub returns : goal.returns
returns c = sym (none_below (goes_to c.args.valid.now.view c.args.component c.args.port) (length c.args.valid.now.view.streams) (λ s less. c.loop-stream.invariant s (omega arith)))
