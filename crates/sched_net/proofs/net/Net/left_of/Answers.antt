use Rattle.sched_net.proofs.LeftSeen.{few_found, hears_left, known_within, takes_left}
use Rattle.sched_net.proofs.net.Net.left_of.Goals as goal

pub undelivered-requires-clause-few : goal.undelivered-requires-clause-few
undelivered-requires-clause-few g c =
    few_found c.args.self.now.valid.now.view c.requires.runs.given c.requires.runs.steps c.args.self.now.books c.requires.runs.stand c.bounded.ensures.valid c.args.component c.args.replica c.seat_at-seated.result.now c.as_slice.result.now
    c.requires.component c.requires.replica (c.bounded.ensures.ports c.args.component c.requires.component) c.seat_at-seated.ensures c.as_slice.ensures

pub undelivered-requires-clause-within : goal.undelivered-requires-clause-within
undelivered-requires-clause-within g c =
    known_within c.args.self.now.valid.now.view c.requires.runs.given c.requires.runs.steps c.args.self.now.books c.requires.runs.stand c.bounded.ensures.valid c.args.component c.args.replica c.requires.component c.requires.replica c.seat_at-seated.result.now c.seat_at-seated.ensures _ _ c.in-Hears.is
    c.as_slice.result.now c.as_slice.ensures

pub returns-in-Hears-clause-left : goal.returns-in-Hears-clause-left
returns-in-Hears-clause-left g c given steps stand =
    hears_left c.args.self.now.valid.now.view given steps c.args.self.now.books stand c.bounded.ensures.valid c.args.component c.args.replica c.requires.component c.requires.replica c.seat_at-seated.result.now c.seat_at-seated.ensures _ _ c.in-Hears.is
    c.as_slice.result.now c.as_slice.ensures c.undelivered.result c.undelivered.ensures.count

pub returns-in-Takes-clause-left : goal.returns-in-Takes-clause-left
returns-in-Takes-clause-left g c given steps stand =
    takes_left c.args.self.now.valid.now.view given steps c.args.self.now.books stand c.bounded.ensures.valid c.args.component c.args.replica c.requires.component c.requires.replica c.seat_at-seated.result.now c.seat_at-seated.ensures _ c.in-Takes.is
    c.untaken.result c.untaken.ensures.count
