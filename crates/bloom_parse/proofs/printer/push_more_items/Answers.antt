use Rattle.std.proofs.Common.{arith}
use Rattle.bloom_parse.proofs.Printed.PrintLemmas.{item_part, items_flat, written_all}
use Rattle.bloom_parse.proofs.printer.push_more_items.Goals as goal

pub returns : goal.returns
returns c = written_all item_part c.args.items.now c.loop-item.item-index c.args.into.now.items c.loop-item.into.items _ (omega arith) (items_flat c.args.items.now) c.loop-item.invariant
