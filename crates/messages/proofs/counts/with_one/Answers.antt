use Rattle.std.proofs.Common.{subst}
use Rattle.messages.specs.EmittedCounts.{IsTallied}
use Rattle.messages.proofs.Tallies.{tally_more}
use Rattle.messages.proofs.counts.with_one.Goals as goal

pub returns-in_ok-add-in-Some : goal.returns-in_ok-add-in-Some
returns-in_ok-add-in-Some c = λ list had. tally_more c.in-Some.tally c.add.new.self c.args.added.now c.add.ensures.columns c.in_ok-add-in-Some.ensures.counts list (subst (λ t. IsTallied t list) c.in-Some.is had)
