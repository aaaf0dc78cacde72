use Rattle.inbox.proofs.Lists.SequencerLaw as sequencers
use Rattle.inbox.proofs.laws.sequencer_law.Goals as goal

pub returns : goal.returns
returns c = sequencers.sequencer_law
