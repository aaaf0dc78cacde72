use Rattle.inbox.proofs.Keeping.Later.{placed_is_later, later_in_steps, stands_later, keeps_later, given_later, reads_later}
use Rattle.inbox.proofs.laws.pool_law.Goals as goal

pub returns-clause-placed : goal.returns-clause-placed
returns-clause-placed c = placed_is_later

pub returns-clause-steps : goal.returns-clause-steps
returns-clause-steps c = later_in_steps

pub returns-clause-heard : goal.returns-clause-heard
returns-clause-heard c = stands_later

pub returns-clause-kept : goal.returns-clause-kept
returns-clause-kept c = keeps_later

pub returns-clause-given : goal.returns-clause-given
returns-clause-given c = given_later

pub returns-clause-reads : goal.returns-clause-reads
returns-clause-reads c = reads_later
