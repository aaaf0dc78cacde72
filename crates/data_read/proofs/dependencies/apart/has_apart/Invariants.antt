use Rattle.data_read.specs.Code.Apart.{AllApart}
use Rattle.data_read.proofs.dependencies.apart.has_apart.Given as goal

abbrev pub invariant-loop-attribute : goal.invariant-loop-attribute
invariant-loop-attribute l = AllApart l.valid.view l.sources l.known.apart.bits
