use Rattle.bloom_parse.proofs.Printed.PrintLaw.{printed_again, printed_text}
use Rattle.bloom_parse.proofs.laws.print_law.Goals as goal

pub returns : goal.returns
returns c = λ m h. (_, printed_again m h, printed_text m h)
