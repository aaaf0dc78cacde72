use Rattle.messages.proofs.KnownLemmas.{count_found, none_found}
use Rattle.messages.proofs.known.count_of.Goals as goal

pub returns-in-Some : goal.returns-in-Some
returns-in-Some c = count_found c.args.places.now c.args.place c.in-Some.numbers.now c.count.result c.in-Some.ensures.lookup.3.0 c.in-Some.ensures.lookup.1 c.count.ensures.count

pub returns-in-None : goal.returns-in-None
returns-in-None c = none_found c.args.places.now c.args.place c.in-None.ensures.lookup.3
