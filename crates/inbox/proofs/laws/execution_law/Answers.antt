use Rattle.inbox.proofs.Executions.Lengthening.{history_grows}
use Rattle.inbox.proofs.Executions.Sent.{history_holds, sent_before}
use Rattle.inbox.proofs.Lists.Repeats.{no_repeats-emitted_list}
use Rattle.inbox.proofs.TimestepLemmas.UnderSeal.{seal_timesteps-go, seal_timesteps-stand}
use Rattle.inbox.proofs.laws.execution_law.Goals as goal

pub returns-clause-grow : goal.returns-clause-grow
returns-clause-grow c = history_grows

pub returns-clause-sent : goal.returns-clause-sent
returns-clause-sent c = history_holds

pub returns-clause-before : goal.returns-clause-before
returns-clause-before c = sent_before

pub returns-clause-repeats : goal.returns-clause-repeats
returns-clause-repeats c = no_repeats-emitted_list

pub returns-clause-sealed : goal.returns-clause-sealed
returns-clause-sealed c = λ i key batches entry is within. (seal_timesteps-go i key is batches entry, seal_timesteps-stand i key is batches entry within)
