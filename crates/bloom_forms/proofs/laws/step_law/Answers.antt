use Rattle.bloom_forms.specs.declared.module.Kind.TheVariants.{Output, Table}
use Rattle.bloom_forms.proofs.Ends.Equated.{end_solves, one_solution, set-made}
use Rattle.bloom_forms.proofs.laws.step_law.Goals as goal

pub returns-clause-solved : goal.returns-clause-solved
returns-clause-solved c = end_solves

pub returns-clause-one : goal.returns-clause-one
returns-clause-one c = one_solution

pub returns-clause-tables : goal.returns-clause-tables
returns-clause-tables c = set-made Table

pub returns-clause-outputs : goal.returns-clause-outputs
returns-clause-outputs c = set-made Output
