-- There is one label a stream.
use Rattle.blazes_commands.proofs.label_calls.labelling.listed.Goals as goal

pub label_text-requires : goal.label_text-requires
label_text-requires c = c.in_ok-labels.ensures.rules.each
