use Rattle.std.proofs.Common.{arith}
use Rattle.bloom_parse.proofs.Printed.PrintLemmas.{pair_part, pairs_flat, written_all}
use Rattle.bloom_parse.proofs.printer.push_pairs.Goals as goal

pub returns : goal.returns
returns c = written_all pair_part c.args.pairs.now c.loop-left.left-index c.args.into.now.items c.loop-left.into.items _ (omega arith) (pairs_flat c.args.pairs.now) c.loop-left.invariant
