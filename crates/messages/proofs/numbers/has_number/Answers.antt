use Rattle.std.proofs.Common.{◌/◌, ◌%◌, get_or}
use Rattle.blz_value.specs.Bits.{bit_of}
use Rattle.messages.proofs.NumbersLemmas.{bit_tested}
use Rattle.messages.proofs.numbers.has_number.Goals as goal

pub returns : goal.returns
returns c = bit_tested (bit_of (c.args.number % 64)) (get_or c.args.words.now (c.args.number / 64) 0) c.bit_of.result c.word_of.result c.bit_of.ensures c.word_of.ensures
