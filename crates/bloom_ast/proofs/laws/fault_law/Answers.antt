use Rattle.bloom_ast.proofs.FirstFaultLemmas.{fault_same}
use Rattle.bloom_ast.proofs.laws.fault_law.Goals as goal

pub returns : goal.returns
returns c = fault_same
