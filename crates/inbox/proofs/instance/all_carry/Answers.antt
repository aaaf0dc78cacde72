use Rattle.std.proofs.Common.{◌∙◌, ◌||◌, not, sym, length, arith}
use Rattle.topo_forms.specs.Carried.{carries_key}
use Rattle.topo_forms.specs.View.{goes_to}
use Rattle.inbox.proofs.Ranges.{all_below, not_all_below}
use Rattle.inbox.proofs.instance.all_carry.Goals as goal

pub returns-then-not-passes : goal.returns-then-not-passes
returns-then-not-passes c = sym (not_all_below (λ s. not (goes_to c.args.valid.now.view c.args.component c.args.port s) || carries_key c.args.valid.now.view c.args.key.bits s) (length c.args.valid.now.view.streams) c.loop-stream.stream (omega arith) (sym c.passes.ensures ∙ c.if-not-passes.true))

pub returns : goal.returns
returns c = sym (all_below (λ s. not (goes_to c.args.valid.now.view c.args.component c.args.port s) || carries_key c.args.valid.now.view c.args.key.bits s) (length c.args.valid.now.view.streams) (λ s less. c.loop-stream.invariant s (omega arith)))
