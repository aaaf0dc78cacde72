use Rattle.std.proofs.Common.{arith}
use Rattle.bloom_parse.proofs.Printed.PrintLemmas.{collection_part, collections_flat, written_all}
use Rattle.bloom_parse.proofs.printer.push_collections.Goals as goal

pub returns : goal.returns
returns c = written_all collection_part c.args.collections.now c.loop-collection.collection-index c.args.into.now.items c.loop-collection.into.items _ (omega arith) (collections_flat c.args.collections.now) c.loop-collection.invariant
