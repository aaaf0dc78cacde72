use Rattle.inbox.proofs.inbox.Inbox.hear_one.Goals as goal

pub returns-in_ok-hear_record-in-Row-clause-keeps : goal.returns-in_ok-hear_record-in-Row-clause-keeps
returns-in_ok-hear_record-in-Row-clause-keeps c = rw c.in-Row.is (λ i waits heard said s. c.in_ok-hear_record-in-Row.ensures.keeps i waits heard said s)

pub returns-in_ok-hear_seal-in-Seal-clause-keeps : goal.returns-in_ok-hear_seal-in-Seal-clause-keeps
returns-in_ok-hear_seal-in-Seal-clause-keeps c = rw c.in-Seal.is (λ i waits heard said s. c.in_ok-hear_seal-in-Seal.ensures.keeps i waits heard _ said.key_is s)
