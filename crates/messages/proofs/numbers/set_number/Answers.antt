use Rattle.messages.proofs.NumbersLemmas.{bit_put}
use Rattle.messages.proofs.numbers.set_number.Goals as goal

pub returns-clause-also : goal.returns-clause-also
returns-clause-also c = bit_put c.args.words.now.items c.args.number c.index_mut.result.now c.bit_of.result c.requires c.index_mut.ensures.value c.bit_of.ensures
