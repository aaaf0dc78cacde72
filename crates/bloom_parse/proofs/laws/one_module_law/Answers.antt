use Rattle.bloom_parse.proofs.Grammar.ModuleComplete.{one_module}
use Rattle.bloom_parse.proofs.laws.one_module_law.Goals as goal

pub returns : goal.returns
returns c = record { one = one_module }
