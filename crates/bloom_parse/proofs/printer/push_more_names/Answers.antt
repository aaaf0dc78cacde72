use Rattle.std.proofs.Common.{arith}
use Rattle.bloom_parse.proofs.Printed.PrintLemmas.{name_part, names_flat, written_all}
use Rattle.bloom_parse.proofs.printer.push_more_names.Goals as goal

pub returns : goal.returns
returns c = written_all name_part c.args.names.now c.loop-name.name-index c.args.into.now.items c.loop-name.into.items _ (omega arith) (names_flat c.args.names.now) c.loop-name.invariant
