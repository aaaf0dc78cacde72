use Rattle.bloom_forms.proofs.Reach.GoodTables.{good_by_rules, only_tables_are_good, good_by_closure, reads_good_by_closure}
use Rattle.bloom_forms.proofs.note_laws.good_law.Goals as goal

pub returns-clause-recursion : goal.returns-clause-recursion
returns-clause-recursion c = good_by_rules

pub returns-clause-tables : goal.returns-clause-tables
returns-clause-tables c = only_tables_are_good

pub returns-clause-closed : goal.returns-clause-closed
returns-clause-closed c = good_by_closure

pub returns-clause-read : goal.returns-clause-read
returns-clause-read c = reads_good_by_closure
