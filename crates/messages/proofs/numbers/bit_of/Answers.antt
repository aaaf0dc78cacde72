use Rattle.messages.proofs.NumbersLemmas.{bit_made}
use Rattle.messages.proofs.numbers.bit_of.Goals as goal

pub returns : goal.returns
returns c = bit_made c.args.number
