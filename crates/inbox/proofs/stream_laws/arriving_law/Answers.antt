use Rattle.inbox.proofs.Records.ArrivingLaw as arrives
use Rattle.inbox.proofs.stream_laws.arriving_law.Goals as goal

pub returns-clause-heard : goal.returns-clause-heard
returns-clause-heard c = arrives.heard_law

pub returns-clause-timesteps : goal.returns-clause-timesteps
returns-clause-timesteps c = arrives.timesteps_law

pub returns-clause-arrivals : goal.returns-clause-arrivals
returns-clause-arrivals c = arrives.arrivals_law

pub returns-clause-feeds : goal.returns-clause-feeds
returns-clause-feeds c = arrives.feeds_law

pub returns-clause-life : goal.returns-clause-life
returns-clause-life c = arrives.life_law
