use Rattle.blz_value.specs.Closure.{closure}
use Rattle.blz_value.proofs.Least.{closure-least}
use Rattle.blz_value.proofs.Reached.{least-one, least-monotone}
use Rattle.blz_value.proofs.closure_laws.closure_law.Goals as goal

pub returns-clause-some : goal.returns-clause-some
returns-clause-some c = λ start fds. (closure start fds, closure-least start fds)

pub returns-clause-one : goal.returns-clause-one
returns-clause-one c = least-one

pub returns-clause-monotone : goal.returns-clause-monotone
returns-clause-monotone c = least-monotone
