use Rattle.bloom_forms.proofs.Ends.OverTables.{over_solved, end_over}
use Rattle.bloom_forms.proofs.laws.tables_law.Goals as goal

pub returns-clause-over : goal.returns-clause-over
returns-clause-over c = λ a ordered tables now sorted. over_solved a ordered tables now sorted

pub returns-clause-end : goal.returns-clause-end
returns-clause-end c = λ a ordered kept now. end_over a ordered kept now
