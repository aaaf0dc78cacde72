use Rattle.std.proofs.Common.{◌+◌, ◌/◌, arith}
use Rattle.messages.proofs.NumbersLemmas.{same_resized}
use Rattle.messages.proofs.numbers.make_room.Goals as goal

pub returns-clause-same : goal.returns-clause-same
returns-clause-same c = same_resized c.resize.result c.args.words.now.items c.resize.new.self.items (c.args.number / 64 + 1) _ (omega arith) c.resize.ensures.items
