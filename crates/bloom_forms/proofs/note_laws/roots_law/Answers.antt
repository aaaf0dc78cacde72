use Rattle.bloom_forms.proofs.Copies.RootsLaw.{table_solves, one_table}
use Rattle.bloom_forms.proofs.note_laws.roots_law.Goals as goal

pub returns-clause-solved : goal.returns-clause-solved
returns-clause-solved c = table_solves

pub returns-clause-one : goal.returns-clause-one
returns-clause-one c = one_table
